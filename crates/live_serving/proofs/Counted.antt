-- How many entries a run of `live` has.
use Rattle.std.proofs.Common.{◌≡◌, ℕ, ◌+◌, ◌*◌, ◌<◌, ◌≤◌, ◌==◌, inl, inr, ⊎_elim, Bool, true, false, true≢false, cond, List, [], ◌∷◌, ◌++◌, length, length-append, flat_map, filter}
use Rattle.std.proofs.Common.{refl, sym, ap, subst, ◌∙◌, arith, suc, zero, Option, Some, None}
use Rattle.std.specs.Prelude.{All, nat_lt, sum_by}
use Rattle.std.specs.List.{enumerate_from}
use Rattle.std.proofs.lemmas.Bool.{cases_lt, eq-eqb, le-ltb, lt-ltb, ne_eqb}
use Rattle.std.proofs.lemmas.List.{length-map}
use Rattle.std.proofs.lemmas.List.FromFn.{length-enumerate_from}
use Rattle.std.proofs.lemmas.List.Recursion.{is_count_by}
use Rattle.std.proofs.lemmas.List.Elements.{All-append, All-cons, All-contains, All-head, All-nil, All-tail, All-weaker}
use Rattle.coflow_units.specs.declared.fabric.Flow.{Flow}
use Rattle.journal.specs.declared.command.Command.{Command}
use Rattle.journal.specs.declared.command.Command.TheVariants.{Close, Open, Publish, Pull, Register, Reweigh, Short, Skip, Withdraw}
use Rattle.journal.specs.declared.command.Entry.{Entry}
use Rattle.journal.specs.declared.command.Reply.{Reply}
use Rattle.journal.specs.declared.opening.Opening.{Opening}
use Rattle.journal.specs.Counts.{is_closing, is_noting, is_skipping}
use Rattle.journal.specs.Entries.{is_driving}
use Rattle.journal.specs.Journal.{entry}
use Rattle.journal.proofs.Counting.{few_closings, units_within}
use Rattle.master_core.specs.Master.{MasterFacts}
use Rattle.turnstile.specs.Histories.{NoneAbove}
use Rattle.workload.specs.declared.script.Script.{Script}
use Rattle.workload.specs.declared.script.ScriptLine.{ScriptLine}
use Rattle.client_session.specs.Closes.{HasEnded, IsClosed}
use Rattle.client_session.specs.Desk.{IsSeen}
use Rattle.client_session.specs.Drivers.{who_of}
use Rattle.client_session.specs.Models.{DriverModel, HallModel, SessionModel}
use Rattle.client_session.specs.Own.{own_entries, OwnEntry}
use Rattle.live_model.specs.Deeds.{entries_by, numbered}
use Rattle.live_model.specs.Rounds.{closing_entries, FitsAnswer, Spell, spell_entries}
use Rattle.live_model.specs.Script.{limit_of, lines_by, lines_of}
use Rattle.live_model.proofs.OwnStands.{own_have}
use Rattle.live_rounds.specs.Drivers.{AreOpenings}
use Rattle.live_rounds.proofs.DriversTold.{others_open_none}
use Rattle.live_serving.specs.Room.{found_none, IsShort}
use Rattle.live_serving.proofs.ClosedTold.{from_splits}

-- ---- counted by a key

abbrev pub sum_to : (ℕ → ℕ) → ℕ → ℕ
sum_to g zero = 0
sum_to g (suc n) = sum_to g n + g n

one_of : {X : Type 0} (b : Bool) (x : X) (xs : List X) → length (cond b (x ∷ xs) xs) ≡ cond b 1 0 + length xs
one_of true x xs = omega arith
one_of false x xs = omega arith

module _ {X : Type 0} (key : X → ℕ) where
  abbrev pub with_key : ℕ → List X → List X
  with_key k xs = filter (λ x. key x == k) xs

  abbrev pub below : ℕ → List X → List X
  below n xs = filter (λ x. nat_lt (key x) n) xs

  one_key : (n : ℕ) (xs : List X) → length (below (n + 1) xs) ≡ length (below n xs) + length (with_key n xs)
  one_key n [] = refl
  one_key n (x ∷ xs) =
      let more = one_key n xs in
      let a = one_of (nat_lt (key x) (n + 1)) x (below (n + 1) xs) in
      let b = one_of (nat_lt (key x) n) x (below n xs) in
      let c = one_of (key x == n) x (with_key n xs) in
      let count : Bool → ℕ = λ y. cond y 1 0 in
      elim (cases_lt (key x) n) [
        | inl lt ↦
            omega (
              arith,
              more,
              a,
              b,
              c,
              ap count (lt-ltb (key x) (n + 1) (omega (arith, lt))),
              ap count (lt-ltb (key x) n lt),
              ap count (ne_eqb (key x) n (λ e. omega (arith, e, lt))),
            )
        | inr ge ↦ elim (cases_lt n (key x)) [
          | inl gt ↦
              omega (
                arith,
                more,
                a,
                b,
                c,
                ap count (le-ltb (key x) (n + 1) (omega (arith, gt))),
                ap count (le-ltb (key x) n (omega (arith, gt))),
                ap count (ne_eqb (key x) n (λ e. omega (arith, e, gt))),
              )
          | inr le ↦
              omega (
                arith,
                more,
                a,
                b,
                c,
                ap count (lt-ltb (key x) (n + 1) (omega (arith, le))),
                ap count (le-ltb (key x) n (omega (arith, ge))),
                ap count (eq-eqb (key x) n (omega (arith, ge, le))),
              )
        ]
      ]

  none_below : (xs : List X) → length (below 0 xs) ≡ 0
  none_below [] = refl
  none_below (x ∷ xs) =
      let count : Bool → ℕ = λ y. cond y 1 0 in
      omega (arith, none_below xs, one_of (nat_lt (key x) 0) x (below 0 xs), ap count (le-ltb (key x) 0 (omega arith)))

  pub by_keys : (n : ℕ) (xs : List X) → length (below n xs) ≡ sum_to (λ k. length (with_key k xs)) n
  by_keys zero xs = none_below xs
  by_keys (suc n) xs = let e : suc n ≡ n + 1 = omega arith in ap (λ m. length (below m xs)) e ∙ one_key n xs ∙ ap (λ m. m + length (with_key n xs)) (by_keys n xs)

  pub few_below : (n : ℕ) (xs : List X) → length (below n xs) ≤ length xs
  few_below n [] = omega arith
  few_below n (x ∷ xs) =
      let more = few_below n xs in
      let one = one_of (nat_lt (key x) n) x (below n xs) in
      go (nat_lt (key x) n) one more
    where
      go : (b : Bool) → length (below n (x ∷ xs)) ≡ cond b 1 0 + length (below n xs) → length (below n xs) ≤ length xs → length (below n (x ∷ xs)) ≤ length (x ∷ xs)
      go true e le = omega (arith, e, le)
      go false e le = omega (arith, e, le)

  pub all_below : (n : ℕ) (xs : List X) → All (λ x. key x < n) xs → length (below n xs) ≡ length xs
  all_below n [] all = refl
  all_below n (x ∷ xs) all =
      let count : Bool → ℕ = λ y. cond y 1 0 in
      omega (
        arith,
        all_below n xs (All-tail (λ y. key y < n) x xs all),
        one_of (nat_lt (key x) n) x (below n xs),
        ap count (lt-ltb (key x) n (All-head (λ y. key y < n) x xs all)),
      )

sum_less : (g h : ℕ → ℕ) (n : ℕ) → ((k : ℕ) → 1 ≤ k → k ≤ n → g k ≤ h k) → sum_to g (suc n) ≤ g 0 + sum_to h (suc n)
sum_less g h zero le = omega arith
sum_less g h (suc n) le = omega (arith, sum_less g h n (λ k some to. le k some (omega (arith, to))), le (suc n) (omega arith) (omega arith))

-- ---- the entries of openings

-- how many of the entries close a run
abbrev closes : List (ℕ × Entry) → ℕ
closes [] = 0
closes (x ∷ xs) = cond (is_closing x.1.reply) (1 + closes xs) (closes xs)

abbrev closes_in : List Entry → ℕ
closes_in [] = 0
closes_in (e ∷ es) = cond (is_closing e.reply) (1 + closes_in es) (closes_in es)

closes_append : (xs ys : List (ℕ × Entry)) → closes (xs ++ ys) ≡ closes xs + closes ys
closes_append [] ys = omega arith
closes_append (x ∷ xs) ys = go (is_closing x.1.reply) (closes_append xs ys)
  where
    go : (b : Bool) → closes (xs ++ ys) ≡ closes xs + closes ys → cond b (1 + closes (xs ++ ys)) (closes (xs ++ ys)) ≡ cond b (1 + closes xs) (closes xs) + closes ys
    go true e = omega (arith, e)
    go false e = e

abbrev drivers : ℕ → List Entry → List (ℕ × Entry)
drivers n es = filter (λ (x : ℕ × Entry). x.1.who == 0) (enumerate_from n es)

few_closes : (n : ℕ) (es : List Entry) → closes (drivers n es) ≤ closes_in es
few_closes n [] = omega arith
few_closes n (e ∷ es) = go (e.who == 0) (few_closes (n + 1) es)
  where
    rest : List (ℕ × Entry)
    rest = drivers (n + 1) es

    one : (c : Bool) → closes rest ≤ closes_in es → cond c (1 + closes rest) (closes rest) ≤ cond c (1 + closes_in es) (closes_in es)
    one true le = omega (arith, le)
    one false le = le

    more : (c : Bool) → closes rest ≤ closes_in es → closes rest ≤ cond c (1 + closes_in es) (closes_in es)
    more true le = omega (arith, le)
    more false le = le

    go : (b : Bool) → closes rest ≤ closes_in es → closes (cond b ((n, e) ∷ rest) rest) ≤ cond (is_closing e.reply) (1 + closes_in es) (closes_in es)
    go true le = one (is_closing e.reply) le
    go false le = more (is_closing e.reply) le

abbrev Fits : Spell → Type 0
Fits s = FitsAnswer s.answer s.closed

-- an opening has two entries where it closes a run, and else one
one_opening : (n most : ℕ) (answer : Reply) (closed : Option (ℕ × Reply)) → FitsAnswer answer closed →
    length ((n, entry 0 (Open most) answer) ∷ closing_entries closed)
    ≡ 2 * closes ((n, entry 0 (Open most) answer) ∷ closing_entries closed) + elim closed as (λ x. ℕ) [ None ↦ 1 | Some x ↦ 0 ]
one_opening n most answer None fits =
    subst (λ (a : Reply). 1 ≡ 2 * closes ((n, entry 0 (Open most) a) ∷ []) + 1) (sym fits) refl
one_opening n most answer (Some x) fits =
    subst (λ (z : Reply × Reply). 2 ≡ 2 * closes ((n, entry 0 (Open most) z.0) ∷ (x.0, entry 0 Close z.1) ∷ []) + 0) (λ i. (sym fits.3 i, sym fits.4 i)) refl

all_openings : (most : ℕ) (spells : List Spell) → All Fits spells →
    length (flat_map (spell_entries most) spells) ≡ 2 * closes (flat_map (spell_entries most) spells) + found_none spells
all_openings most [] fits = refl
all_openings most (s ∷ ss) fits =
    let here = spell_entries most s in
    let rest = flat_map (spell_entries most) ss in
    omega (
      arith,
      length-append here rest,
      closes_append here rest,
      one_opening s.opened most s.answer s.closed (All-head Fits s ss fits),
      all_openings most ss (All-tail Fits s ss fits),
    )

-- ---- nothing is noted, and no slot is skipped

abbrev pub IsQuiet : Command → Type 0
IsQuiet k = (is_noting k ≡ false) × (is_skipping k ≡ false)

quiet_or_drives : (k : Command) → (is_driving k ≡ true → ⊥) → IsQuiet k
quiet_or_drives (Short port units) h = absurd (h refl)
quiet_or_drives (Skip to) h = absurd (h refl)
quiet_or_drives (Register c) h = (refl, refl)
quiet_or_drives (Withdraw c) h = (refl, refl)
quiet_or_drives Publish h = (refl, refl)
quiet_or_drives (Pull c) h = (refl, refl)
quiet_or_drives (Open most) h = (refl, refl)
quiet_or_drives Close h = (refl, refl)
quiet_or_drives (Reweigh c w) h = (refl, refl)

abbrev Quiet : ℕ × Entry → Type 0
Quiet x = IsQuiet x.1.command

abbrev pub QuietEntry : Entry → Type 0
QuietEntry e = IsQuiet e.command

quiet_spell : (most : ℕ) (s : Spell) → All Quiet (spell_entries most s)
quiet_spell most s = go s.closed
  where
    go : (closed : Option (ℕ × Reply)) → All Quiet ((s.opened, entry 0 (Open most) s.answer) ∷ closing_entries closed)
    go None = All-cons Quiet (s.opened, entry 0 (Open most) s.answer) [] (refl, refl) (All-nil Quiet)
    go (Some x) =
        All-cons Quiet (s.opened, entry 0 (Open most) s.answer) ((x.0, entry 0 Close x.1) ∷ []) (refl, refl)
        (All-cons Quiet (x.0, entry 0 Close x.1) [] (refl, refl) (All-nil Quiet))

quiet_spells : (most : ℕ) (spells : List Spell) → All Quiet (flat_map (spell_entries most) spells)
quiet_spells most [] = All-nil Quiet
quiet_spells most (s ∷ ss) = All-append Quiet (spell_entries most s) (flat_map (spell_entries most) ss) (quiet_spell most s) (quiet_spells most ss)

abbrev ByRoot : Entry → Type 0
ByRoot e = is_driving e.command ≡ true → e.who ≡ 0

none_noted : (n : ℕ) (es : List Entry) → All ByRoot es → All Quiet (drivers n es) → All QuietEntry es
none_noted n [] root quiet = All-nil QuietEntry
none_noted n (e ∷ es) root quiet = go (e.who == 0) refl quiet (λ rest. none_noted (n + 1) es (All-tail ByRoot e es root) rest)
  where
    go : (b : Bool) → (e.who == 0) ≡ b → All Quiet (cond b ((n, e) ∷ drivers (n + 1) es) (drivers (n + 1) es)) → (All Quiet (drivers (n + 1) es) → All QuietEntry es) →
        All QuietEntry (e ∷ es)
    go true is h more =
        All-cons QuietEntry e es (All-head Quiet (n, e) (drivers (n + 1) es) h) (more (All-tail Quiet (n, e) (drivers (n + 1) es) h))
    go false is h more =
        All-cons QuietEntry e es
        (quiet_or_drives e.command (λ drives. absurd (true≢false (sym (eq-eqb e.who 0 (All-head ByRoot e es root drives)) ∙ is)))) (more h)

-- so it is where the driver's entries are openings with their closings
pub openings_are_quiet : (o : Opening) (most : ℕ) (journal : List Entry) (spells : List Spell) → IsSeen o journal → AreOpenings most journal spells → All QuietEntry journal
openings_are_quiet o most journal spells seen openings = none_noted 1 journal seen.driven (subst (All Quiet) (sym openings.entries) (quiet_spells most spells))

-- ---- the whole journal

abbrev key : ℕ × Entry → ℕ
key x = x.1.who

abbrev line_key : ℕ × ScriptLine → ℕ
line_key x = x.1.client

keys_below : (n k : ℕ) (es : List Entry) → NoneAbove who_of n es → All (λ (x : ℕ × Entry). key x < n + 1) (enumerate_from k es)
keys_below n k [] h = All-nil (λ (x : ℕ × Entry). key x < n + 1)
keys_below n k (e ∷ es) h =
    let le = All-head (λ (x : Entry). who_of x ≤ n) e es h in
    All-cons (λ (x : ℕ × Entry). key x < n + 1) (k, e) (enumerate_from (k + 1) es) (omega (arith, le))
    (keys_below n (k + 1) es (All-tail (λ (x : Entry). who_of x ≤ n) e es h))

module _ (script : Script) (most : ℕ) (hall : HallModel) (driver : DriverModel) (sessions : List SessionModel) (spells : List Spell) (master : MasterFacts)
    (limit : master.opening.limit ≡ limit_of master.opening script) (each : length sessions ≡ script.clients) (few : All (IsShort script) sessions)
    (openings : AreOpenings most driver.journal spells) (none : found_none spells ≤ length script.rounds + 1) (c : IsClosed hall driver sessions master) where
  abbrev journal : List Entry
  journal = master.journal

  opened : AreOpenings most journal spells
  opened = others_open_none most driver.journal journal spells c.begins openings

  above : NoneAbove who_of script.clients journal
  above = from_splits (λ (e : Entry). who_of e ≤ script.clients) [] journal (λ front more e is.
      ⊎_elim (λ own. let z = own.0 in omega (arith, z))
      (λ by. let low = (All-contains (IsShort script) sessions by.0 few by.1).number in omega (arith, low, by.2)) (c.entries front more e is))

  -- a client has no more entries than lines
  short : (k : ℕ) → 1 ≤ k → k ≤ script.clients → length (entries_by journal k) ≤ length (lines_by script k)
  short k some to =
      let (s, in', number) = c.numbers k (omega (arith, some)) (omega (arith, to, each, c.given)) in
      let ended = All-contains (HasEnded master.opening journal) sessions s c.ended in' in
      let low = (All-contains (IsShort script) sessions s few in').own in
      let have = ap (λ (l : List (ℕ × Entry)). length l) (own_have journal k).entries in
      let place : OwnEntry → ℕ × Entry = λ e. (e.position, entry k e.command e.reply) in
      let long = length-map (own_entries k journal) place in
      let own = ap (λ (l : List OwnEntry). length l) (ended.own ∙ ap (λ n. own_entries n journal) number) in
      let lines = ap (λ n. length (lines_by script n)) number in
      omega (arith, low, have, long, own, lines)

  few_driven : length (entries_by journal 0) ≤ 2 * sum_by (λ (x : Flow). x.units) master.opening.table.flows + length script.rounds + 1
  few_driven =
      let quiet = All-weaker QuietEntry (λ (e : Entry). is_noting e.command ≡ false) (λ e q. q.0) journal (openings_are_quiet master.opening most journal spells c.seen opened) in
      let count = is_count_by closes_in (λ (e : Entry). is_closing e.reply) refl (λ e es. refl) journal in
      omega (
        arith,
        ap (λ (l : List (ℕ × Entry)). length l) opened.entries,
        ap closes opened.entries,
        all_openings most spells opened.answers,
        few_closes 1 journal,
        count,
        few_closings master.opening journal c.seen.legal c.seen.in_range quiet,
        units_within master.opening journal c.seen.legal c.seen.in_range,
        none,
      )

  pub has_room : length journal < master.opening.limit
  has_room =
      let n = script.clients in
      let g : ℕ → ℕ = λ k. length (with_key key k (numbered journal)) in
      let h : ℕ → ℕ = λ k. length (with_key line_key k (lines_of script)) in
      let e : suc n ≡ n + 1 = omega arith in
      let all : All (λ (x : ℕ × Entry). key x < suc n) (numbered journal) =
      subst (λ m. All (λ (x : ℕ × Entry). key x < m) (numbered journal)) (sym e) (keys_below n 1 journal above) in
      omega (
        arith,
        limit,
        length-enumerate_from 1 journal,
        all_below key (suc n) (numbered journal) all,
        by_keys key (suc n) (numbered journal),
        sum_less g h n short,
        by_keys line_key (suc n) (lines_of script),
        few_below line_key (suc n) (lines_of script),
        few_driven,
      )
