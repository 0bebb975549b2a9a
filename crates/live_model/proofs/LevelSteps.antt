-- From own entries and levels to facts of the closed journal.
use Rattle.std.proofs.Common.{◌≡◌, ℕ, ◌+◌, ◌-◌, ◌≤◌, ◌<◌, List, [], ◌∷◌, ◌++◌, length, map, get_or, take, drop, refl}
use Rattle.std.proofs.Common.{sym, ap, subst, ◌∙◌, arith, append_assoc, Option, Some, None, suc}
use Rattle.std.specs.Prelude.{All, flat_map}
use Rattle.std.specs.List.{enumerate_from, slice_index_or}
use Rattle.std.specs.Option.{IfSome}
use Rattle.std.proofs.lemmas.List.{length-append, length-take, take-append-drop}
use Rattle.std.proofs.lemmas.List.Elements.{All-cons, All-head, All-nil, All-tail}
use Rattle.journal.specs.declared.command.Command.{Command}
use Rattle.journal.specs.declared.command.Entry.{Entry}
use Rattle.journal.specs.declared.opening.Opening.{Opening}
use Rattle.journal.specs.Journal.{entry, IsLegal}
use Rattle.journal.proofs.Legal.{legal_front}
use Rattle.journal.proofs.VersionEntries.{made}
use Rattle.client_session.specs.Own.{OwnEntry}
use Rattle.live_model.specs.Script.{command_of}
use Rattle.live_model.specs.Deeds.{asked_at, asked_by, asked_in, Deed, ForLaterRounds, HasEntry, IsPull, IsTwoAbove}
use Rattle.live_model.specs.Deeds.{numbered, version_after}
use Rattle.live_model.specs.Pulls.{IsMadeBefore, IsMadeFor}
use Rattle.live_model.specs.Rounds.{Driving, end_of, KeepRounds, spells_of}
use Rattle.live_model.specs.Levels.{AreKept, AreLevelled, HaveEntries, kept_at, Levels, version_before}

-- ---- own entries

map_map : {X Y Z : Type 0} (g : Y → Z) (f : X → Y) (xs : List X) → map g (map f xs) ≡ map (λ x. g (f x)) xs
map_map g f [] = refl
map_map g f (x ∷ xs) = ap (λ l. g (f x) ∷ l) (map_map g f xs)

abbrev short : ℕ × ℕ × Command → ℕ × Command
short x = (x.0, x.2)

kept_asks : (o : Option ℕ) (v : ℕ) (k : Command) (ks : List (ℕ × ℕ × Command)) (ls : List (ℕ × Command)) → map short ks ≡ ls → map short (kept_at o v k ++ ks) ≡ asked_at o k ++ ls
kept_asks None v k ks ls e = e
kept_asks (Some p) v k ks ls e = ap (λ l. (p, k) ∷ l) e

asked_short : (deeds : List Deed) → map short (flat_map (λ d. kept_at d.position d.version (command_of d.line.asked)) deeds) ≡ asked_in deeds
asked_short [] = refl
asked_short (d ∷ ds) =
    kept_asks d.position d.version (command_of d.line.asked) (flat_map (λ d. kept_at d.position d.version (command_of d.line.asked)) ds) (asked_in ds) (asked_short ds)

abbrev Fits : List Entry → ℕ × ℕ × Command → Type 0
Fits journal x = x.1 ≡ version_after journal x.0

first_fits : (journal : List Entry) (o : Option ℕ) (v : ℕ) (k : Command) (ks : List (ℕ × ℕ × Command)) → All (Fits journal) (kept_at o v k ++ ks) →
    IfSome o (λ p. v ≡ version_after journal p) × All (Fits journal) ks
first_fits journal None v k ks all = (tt, all)
first_fits journal (Some p) v k ks all = (All-head (Fits journal) (p, v, k) ks all, All-tail (Fits journal) (p, v, k) ks all)

abbrev Tells : List Entry → Deed → Type 0
Tells journal d = IfSome d.position (λ p. d.version ≡ version_after journal p)

all_fit : (journal : List Entry) (deeds : List Deed) → All (Fits journal) (flat_map (λ d. kept_at d.position d.version (command_of d.line.asked)) deeds) → All (Tells journal) deeds
all_fit journal [] all = All-nil (Tells journal)
all_fit journal (d ∷ ds) all =
    let rest = flat_map (λ (d : Deed). kept_at d.position d.version (command_of d.line.asked)) ds in
    let x = first_fits journal d.position d.version (command_of d.line.asked) rest all in
    All-cons (Tells journal) d ds x.0 (all_fit journal ds x.1)

fit_map : (journal : List Entry) (own : List OwnEntry) → All (λ (r : OwnEntry). r.version ≡ version_after journal r.position) own →
    All (Fits journal) (map (λ (r : OwnEntry). (r.position, r.version, r.command)) own)
fit_map journal [] all = All-nil (Fits journal)
fit_map journal (r ∷ rs) all =
    let P = λ (r : OwnEntry). r.version ≡ version_after journal r.position in
    All-cons (Fits journal) (r.position, r.version, r.command) (map (λ (r : OwnEntry). (r.position, r.version, r.command)) rs) (All-head P r rs all)
    (fit_map journal rs (All-tail P r rs all))

pub own_deeds_stand : (journal : List Entry) (client : ℕ) (own : List OwnEntry) (deeds : List Deed) → HaveEntries journal client own → AreKept own deeds →
    (asked_by journal client ≡ asked_in deeds) × All (λ (d : Deed). IfSome d.position (λ p. d.version ≡ version_after journal p)) deeds
own_deeds_stand journal client own deeds have kept =
    let full : OwnEntry → ℕ × Entry = λ r. (r.position, entry client r.command r.reply) in
    let part : OwnEntry → ℕ × ℕ × Command = λ r. (r.position, r.version, r.command) in
    let asks : asked_by journal client ≡ map (λ (r : OwnEntry). (r.position, r.command)) own =
    ap (map (λ (x : ℕ × Entry). (x.0, x.1.command))) have.entries ∙ map_map (λ (x : ℕ × Entry). (x.0, x.1.command)) full own in (
      asks ∙ sym (map_map short part own) ∙ ap (map short) kept ∙ asked_short deeds,
      all_fit journal deeds (subst (All (Fits journal)) kept (fit_map journal own have.versions)),
    )

-- ---- a version that was made before a position

stands : (n : ℕ) (before rest : List Entry) (e : Entry) (d : ℕ × Entry) → slice_index_or (enumerate_from n (before ++ e ∷ rest)) (length before) d ≡ (n + length before, e)
stands n [] rest e d = ap (λ m. (m, e)) (omega arith)
stands n (x ∷ before) rest e d =
    stands (n + 1) before rest e d ∙ ap (λ m. (m, e)) (omega arith)

length_numbered : (n : ℕ) (es : List Entry) → length (enumerate_from n es) ≡ length es
length_numbered n [] = refl
length_numbered n (e ∷ es) = ap suc (length_numbered (n + 1) es)

pub made_before : (o : Opening) (journal : List Entry) (v p : ℕ) → IsLegal o journal → 1 ≤ v → v ≤ version_before journal p → IsMadeBefore journal v p
made_before o journal v p legal some le =
    let n = p - 1 in
    let front = legal_front o [] (take n journal) (drop n journal) (subst (λ j. IsLegal o j) (sym (take-append-drop n journal)) legal) in
    let m = made o (take n journal) v front some le in
    let whole : journal ≡ m.before ++ m.entry ∷ (m.more ++ drop n journal) =
    sym (take-append-drop n journal) ∙ ap (λ l. l ++ drop n journal) m.stands ∙ append_assoc m.before (m.entry ∷ m.more) (drop n journal) in
    let x : ℕ × Entry = (1 + length m.before, m.entry) in
    let at : slice_index_or (numbered journal) (length m.before) x ≡ x =
    ap (λ (j : List Entry). slice_index_or (numbered j) (length m.before) x) whole ∙ stands 1 m.before (m.more ++ drop n journal) m.entry x in
    let len = ap (λ (l : List Entry). length l) m.stands ∙ length-append m.before (m.entry ∷ m.more) in
    let all = ap (λ (l : List Entry). length l) whole ∙ length-append m.before (m.entry ∷ (m.more ++ drop n journal)) in
    (length m.before, x, omega (arith, length_numbered 1 journal, all), at, (omega (arith, len, length-take n journal), m.reply))

-- ---- levels

pub levels_keep_rounds : (journal : List Entry) (levels : Levels) (deeds : ℕ → List Deed) (driving : Driving) → AreLevelled journal levels deeds driving → KeepRounds deeds driving
levels_keep_rounds journal levels deeds driving h = record {
  clients = λ client other i d lt i' d' lt' less.
      let a = get_or (deeds client) i d in
      let b = get_or (deeds other) i' d' in
      order a.position b.position (levels.position (a.round + 1)) (levels.position b.round) (h.positions (a.round + 1) b.round (omega (arith, less)))
      (h.lines client i d lt).within (h.lines other i' d' lt').above;
  opened = λ client i d lt j s lt' less.
      let a = get_or (deeds client) i d in
      let x = get_or (spells_of driving) j s in
      below a.position (levels.position (a.round + 1)) x.opened (omega (arith, h.positions (a.round + 1) x.round (omega (arith, less)), (h.openings j s lt').above))
      (h.lines client i d lt).within;
  closed = λ client i d lt j s lt' less.
      let a = get_or (deeds client) i d in
      let x = get_or (spells_of driving) j s in
      beyond a.position (levels.position a.round) (end_of x) (omega (arith, h.positions (x.round + 1) a.round (omega (arith, less)), (h.openings j s lt').within))
      (h.lines client i d lt).above;
}
  where
    order : (o o' : Option ℕ) (m n : ℕ) → m ≤ n → IfSome o (λ p. p ≤ m) → IfSome o' (λ q. n < q) → IfSome o (λ p. IfSome o' (λ q. p < q))
    order None o' m n le x y = tt
    order (Some p) None m n le x y = tt
    order (Some p) (Some q) m n le x y = omega (arith, le, x, y)

    below : (o : Option ℕ) (m n : ℕ) → m < n → IfSome o (λ p. p ≤ m) → IfSome o (λ p. p < n)
    below None m n lt x = tt
    below (Some p) m n lt x = omega (arith, lt, x)

    beyond : (o : Option ℕ) (m n : ℕ) → n ≤ m → IfSome o (λ p. m < p) → IfSome o (λ p. n < p)
    beyond None m n le x = tt
    beyond (Some p) m n le x = omega (arith, le, x)

pub levels_move : (journal : List Entry) (levels : Levels) (deeds : ℕ → List Deed) (driving : Driving) → AreLevelled journal levels deeds driving →
    ForLaterRounds deeds (λ a b. HasEntry a → IsTwoAbove a b)
levels_move journal levels deeds driving h client other i d lt i' d' lt' less has pull entry' =
    let a = get_or (deeds client) i d in
    let b = get_or (deeds other) i' d' in
    omega (arith, (h.lines client i d lt).shown, h.versions (a.round + 1) b.round (omega (arith, less)), (h.lines other i' d' lt').moved pull entry')

pub levels_show : (journal : List Entry) (levels : Levels) (deeds : ℕ → List Deed) (driving : Driving) → AreLevelled journal levels deeds driving →
    ForLaterRounds deeds (λ a b. HasEntry a → IsPull b → a.version ≤ b.version)
levels_show journal levels deeds driving h client other i d lt i' d' lt' less has pull =
    let a = get_or (deeds client) i d in
    let b = get_or (deeds other) i' d' in
    omega (arith, (h.lines client i d lt).shown, h.versions (a.round + 1) b.round (omega (arith, less)), (h.lines other i' d' lt').seen pull)

pub made_at : (o : Opening) (journal : List Entry) (v n : ℕ) (x : Option ℕ) → IsLegal o journal → 1 ≤ v → v ≤ n → IfSome x (λ p. n ≤ version_before journal p) → IfSome x
    (λ p. IsMadeBefore journal v p)
made_at o journal v n None legal some le h = tt
made_at o journal v n (Some p) legal some le h = made_before o journal v p legal some (omega (arith, le, h))

pub levels_make : (o : Opening) (journal : List Entry) (levels : Levels) (deeds : ℕ → List Deed) (driving : Driving) → IsLegal o journal → AreLevelled journal levels deeds
    driving →
    ForLaterRounds deeds (IsMadeFor journal)
levels_make o journal levels deeds driving legal h client other i d lt i' d' lt' less pull some =
    let a = get_or (deeds client) i d in
    let b = get_or (deeds other) i' d' in
    made_at o journal a.version (levels.version b.round) b.position legal some
    (omega (arith, (h.lines client i d lt).shown, h.versions (a.round + 1) b.round (omega (arith, less)))) (h.lines other i' d' lt').made
