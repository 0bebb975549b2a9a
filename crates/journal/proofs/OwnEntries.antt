-- The driver's own entries of a driven run.
use Rattle.std.proofs.Common.{◌≡◌, ◌⊎◌, inl, inr, true, false, List, [], ◌∷◌, ◌++◌, Contains, refl, sym, ap, subst, ◌∙◌, arith}
use Rattle.std.proofs.Common.{suc, cond, append_assoc, append-nil}
use Rattle.std.specs.Prelude.{All, nat_lt, not, ◌==◌}
use Rattle.std.proofs.lemmas.Bool.{and_parts, cases_Bool, ltb-true, ne_eqb}
use Rattle.std.proofs.lemmas.List.Elements.{All-cons, All-contains, Contains-append_right, filter-append}
use Rattle.coflow_units.specs.Flows.{ingress_of}
use Rattle.coflow_units.proofs.Sums.{in_first}
use Rattle.journal.specs.declared.command.Command.TheVariants.{Close, Short}
use Rattle.journal.specs.declared.command.Entry.{Entry}
use Rattle.journal.specs.declared.command.Reply.TheVariants.{Closed, Noted}
use Rattle.journal.specs.declared.opening.Opening.{Opening}
use Rattle.journal.specs.Journal.{entry, IsLegal}
use Rattle.journal.specs.Driven.{closed_in, closing, Drive, driven, is_other, IsDriven, IsSentWhole, IsShortOf, IsTakenNote, opened_in, opening, driver_entries, sent_from}
use Rattle.journal.specs.Entries.{is_driving}
use Rattle.journal.proofs.Legal.{legal_front}
use Rattle.journal.proofs.UnderWay.{close_reply, note_taken}

-- an entry of others is none of the driver
not_own : (e : Entry) → is_other e ≡ true → (e.who == 0) ≡ false
not_own e other = let some = ltb-true 0 e.who (and_parts (nat_lt 0 e.who) (not (is_driving e.command)) other).0 in ne_eqb e.who 0 (λ zero. absurd (omega (arith, some, zero)))

none_own : (es : List Entry) → All (λ e. is_other e ≡ true) es → driver_entries es ≡ []
none_own [] all = refl
none_own (e ∷ es) all =
    ap (λ b. cond b (e ∷ driver_entries es) (driver_entries es)) (not_own e (all 0 e (omega arith))) ∙ none_own es (λ k d lt. all (suc k) d (omega arith))

own_both : (xs ys : List Entry) → driver_entries (xs ++ ys) ≡ driver_entries xs ++ driver_entries ys
own_both xs ys = filter-append (λ (e : Entry). e.who == 0) xs ys

-- what holds of the entries that are not of others holds of the driver's own
own_all : (P : Entry → Type 0) (es : List Entry) → All (λ e. (is_other e ≡ true) ⊎ P e) es → All P (driver_entries es)
own_all P [] all = λ k d lt. absurd (omega arith)
own_all P (e ∷ es) all =
    let rest = own_all P es (λ k d lt. all (suc k) d (omega arith)) in
    elim (all 0 e (omega arith)) [
      | inl other ↦ subst (All P) (sym (ap (λ b. cond b (e ∷ driver_entries es) (driver_entries es)) (not_own e other))) rest
      | inr is ↦ elim (cases_Bool (e.who == 0)) [
        | inl own ↦ subst (All P) (sym (ap (λ b. cond b (e ∷ driver_entries es) (driver_entries es)) own)) (All-cons P e (driver_entries es) is rest)
        | inr not' ↦ subst (All P) (sym (ap (λ b. cond b (e ∷ driver_entries es) (driver_entries es)) not')) rest
      ]
    ]

-- the entries of the driver are its opening, its notes and its closing
pub own_are : (o : Opening) (before after : List Entry) (d : Drive) → IsDriven o before after d →
    driver_entries after ≡ driver_entries before ++ opening d ∷ [] ++ driver_entries d.between ++ closing d ∷ []
own_are o before after d h =
    let front = opened_in before d ++ opening d ∷ [] in
    ap driver_entries h.goes_on ∙ own_both (closed_in before d) (closing d ∷ []) ∙
    ap (λ l. l ++ closing d ∷ [])
    (own_both front d.between ∙ ap (λ l. l ++ driver_entries d.between)
    (own_both (opened_in before d) (opening d ∷ []) ∙ ap (λ l. l ++ opening d ∷ [])
    (own_both before d.earlier ∙ ap (λ l. driver_entries before ++ l) (none_own d.earlier h.under_way.earlier) ∙ append-nil (driver_entries before))))

-- ---- the notes

-- what holds at each place of a list holds of its elements
at_each : {X : Type 0} (P : X → Type 0) (front es : List X) (all : List X) → all ≡ front ++ es → ((a b : List X) (x : X) → all ≡ a ++ (x ∷ b) → P x) → All P es
at_each P front [] all is each = λ k d lt. absurd (omega arith)
at_each P front (x ∷ xs) all is each =
    All-cons P x xs (each front xs x is) (at_each P (front ++ x ∷ []) xs all (is ∙ sym (append_assoc front (x ∷ []) xs)) each)

taken : (o : Opening) (before : List Entry) (d : Drive) (e : Entry) → (is_other e ≡ true) ⊎ IsShortOf o.table.flows (driven o before d) d e →
    ((x : IsShortOf o.table.flows (driven o before d) d e) → e.reply ≡ Noted (sent_from o.table.flows d x.0)) →
    (is_other e ≡ true) ⊎ IsTakenNote o.table.flows (driven o before d) d e
taken o before d e (inl other) told = inl other
taken o before d e (inr x) told =
    let flows = o.table.flows in
    let (f, in', who, asks, lt) = x in
    inr (
      f,
      in',
      ap (λ n. entry n e.command e.reply) who ∙ ap (λ k. entry 0 k e.reply) asks ∙ ap (entry 0 (Short (ingress_of flows f) (sent_from flows d f))) (told x),
      lt,
    )

-- each note of the driver was taken
pub own_notes : (o : Opening) (before after : List Entry) (d : Drive) → IsLegal o after → IsDriven o before after d →
    All (IsTakenNote o.table.flows (driven o before d) d) (driver_entries d.between)
own_notes o before after d legal h =
    let now = closed_in before d in
    let P = λ (e : Entry). (is_other e ≡ true) ⊎ IsShortOf o.table.flows (driven o before d) d e in
    let front = legal_front o [] now (closing d ∷ []) (subst (IsLegal o) h.goes_on legal) in
    own_all (IsTakenNote o.table.flows (driven o before d) d) d.between
    (at_each (λ e. (is_other e ≡ true) ⊎ IsTakenNote o.table.flows (driven o before d) d e) [] d.between d.between refl
    (λ a b e is. taken o before d e (All-contains P d.between e h.under_way.between (subst (λ l. Contains l e) (sym is)
    (Contains-append_right a (e ∷ b) e (in_first e b))))
    (λ x. note_taken o before now a b d e front h.under_way is x)))

-- a run that was sent whole has no notes
no_note : (o : Opening) (before : List Entry) (d : Drive) (es : List Entry) → IsSentWhole o before d → All (IsShortOf o.table.flows (driven o before d) d) es → es ≡ []
no_note o before d [] whole all = refl
no_note o before d (e ∷ es) whole all =
    let (f, in', who, asks, lt) = all 0 e (omega arith) in
    absurd (omega (arith, whole f in', lt))

pub own_whole : (o : Opening) (before after : List Entry) (d : Drive) → IsDriven o before after d → IsSentWhole o before d → driver_entries d.between ≡ []
own_whole o before after d h whole =
    no_note o before d (driver_entries d.between) whole (own_all (IsShortOf o.table.flows (driven o before d) d) d.between h.under_way.between)

-- the closing tells the first slot
pub own_close : (o : Opening) (before after : List Entry) (d : Drive) → IsLegal o after → IsDriven o before after d → closing d ≡ entry 0 Close (Closed d.first)
own_close o before after d legal h =
    ap (entry 0 Close) (close_reply o before (closed_in before d) d 0 d.answer (subst (IsLegal o) h.goes_on legal) h.under_way)
