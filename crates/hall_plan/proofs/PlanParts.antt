-- What is sent after the runs of a plan, and in one run more, is part of the served schedule.
use Rattle.std.proofs.Common.{◌≡◌, ℕ, ◌+◌, ◌-◌, ◌<◌, inl, inr, true, true≢false, Bool}
use Rattle.std.proofs.Common.{List, [], ◌∷◌, ◌++◌, get_or, length, take, sym, ap, subst, ◌∙◌, arith, append-nil}
use Rattle.std.specs.Prelude.{map, nat_lt, replicate}
use Rattle.std.specs.List.{filter, range_with_len}
use Rattle.std.proofs.lemmas.Bool.{cases_lt}
use Rattle.std.proofs.lemmas.List.{get_or-append-add, get_or_append_left, get_or_past, get_or-replicate, get_or-take, take_all}
use Rattle.std.proofs.lemmas.List.FromFn.{get_or-map-range_with_len, length-map-range_with_len}
use Rattle.coflow_units.specs.declared.fabric.Flow.{Flow}
use Rattle.coflow_units.specs.Grants.{IsGrants}
use Rattle.coflow_units.specs.Schedule.{holds}
use Rattle.coflow_units.specs.Served.{IsServed, IsServedSoFar, left_after}
use Rattle.coflow_units.proofs.Lists.{filter_in}
use Rattle.coflow_units.proofs.ServeLaws.{same_front}
use Rattle.coflow_units.proofs.ServedRuns.{run_goes_on, same_grants}
use Rattle.coflow_units.proofs.Sums.{any_has, any_in}
use Rattle.journal.specs.declared.command.Entry.{Entry}
use Rattle.journal.specs.declared.opening.Opening.{Opening}
use Rattle.journal.specs.State.{IsOpening, owed}
use Rattle.journal.specs.Closed.{schedule_of}
use Rattle.journal.specs.Driven.{closing, Drive, driven, driven_slots, IsDriven, opened_in, opening, sent_from}
use Rattle.journal.specs.Fold.{state_of}
use Rattle.journal.specs.Journal.{IsLegal, line_of}
use Rattle.journal.specs.Sound.{InRange}
use Rattle.journal.proofs.Counting.{opened_grant}
use Rattle.journal.proofs.Driving.{driven_goes_on, legal_open}
use Rattle.journal.proofs.EntryTells.{entry_tells}
use Rattle.journal.proofs.Legal.{legal_front}
use Rattle.journal.proofs.ScheduleTimes.{times_is_sent}
use Rattle.journal.proofs.ServingRuns.{as_long}
use Rattle.hall_plan.specs.Journals.{plan_journal, plan_order}
use Rattle.slot_runner.specs.Wires.{IsPartOf}
use Rattle.hall_plan.proofs.Begun.{line_is}
use Rattle.hall_plan.proofs.PlanEntries.{commands_fit}
use Rattle.hall_plan.proofs.PlanRuns.{serves}

-- ---- a schedule that serves an order so far is a front of the served one

not_past : (flows : List Flow) (line : List ℕ) (a b : List (List ℕ)) → IsServedSoFar flows line a → IsServed flows line b → length b < length a → ⊥
not_past flows line a b sa sb lt =
    let front : take (length b) a ≡ b = same_front flows line a b sa sb.so_far (length b) (omega arith) (omega arith) ∙ take_all (length b) b (omega arith) in
    let (f, low, some) = sa.owed (length b) lt in
    let none : left_after flows (take (length b) a) f ≡ 0 = subst (λ x. left_after flows x f ≡ 0) (sym front) (sb.ended f low) in
    omega (arith, none, some)

inside : (l : List (List ℕ)) (k f : ℕ) → holds (get_or l k []) f ≡ true → k < length l
inside l k f in' = elim (cases_lt k (length l)) [
  | inl lt ↦ lt
  | inr past ↦ absurd (true≢false (sym in' ∙ ap (λ s. holds s f) (get_or_past l k [] past)))
]

pub part_of_served : (flows : List Flow) (line : List ℕ) (a b : List (List ℕ)) → IsServedSoFar flows line a → IsServed flows line b → IsPartOf a b
part_of_served flows line a b sa sb k f in' = elim (cases_lt (length b) (length a)) [
  | inl lt ↦ absurd (not_past flows line a b sa sb lt)
  | inr le ↦
      let lt = inside a k f in' in
      let front : a ≡ take (length a) b = sym (take_all (length a) a (omega arith)) ∙ same_front flows line a b sa sb.so_far (length a) (omega arith) le in
      ap (λ s. holds s f) (sym (ap (λ l. get_or l k []) front ∙ get_or-take (length a) b k [] lt)) ∙ in'
]

-- ---- what a run sends is part of what it would send whole

in_part : (p : ℕ → ℕ → Bool) (granted : List ℕ) (n j f : ℕ) → holds (get_or (map (λ i. filter (p i) granted) (range_with_len 0 n)) j []) f ≡ true →
    holds (get_or (replicate n granted) j []) f ≡ true
in_part p granted n j f in' =
    let G = λ (i : ℕ). filter (p i) granted in
    let lt : j < n = omega (arith, inside (map G (range_with_len 0 n)) j f in', length-map-range_with_len G 0 n) in
    let at : get_or (map G (range_with_len 0 n)) j [] ≡ filter (p j) granted = get_or-map-range_with_len G 0 n j j [] lt (omega arith) in
    let has' = filter_in (p j) granted f (any_has (filter (p j) granted) f (sym (ap (λ s. holds s f) at) ∙ in')) in
    ap (λ s. holds s f) (get_or-replicate n j granted [] lt) ∙ any_in granted f has'.0

after_both : (a x y : List (List ℕ)) → IsPartOf x y → IsPartOf (a ++ x) (a ++ y)
after_both a x y part k f in' = elim (cases_lt k (length a)) [
  | inl lt ↦ ap (λ s. holds s f) (get_or_append_left a y [] k lt ∙ sym (get_or_append_left a x [] k lt)) ∙ in'
  | inr ge ↦
      let e : k ≡ length a + (k - length a) = omega (arith, ge) in
      let shift = λ (z : List (List ℕ)). ap (λ i. get_or (a ++ z) i []) e ∙ get_or-append-add a z (k - length a) [] in
      ap (λ s. holds s f) (shift y) ∙ part (k - length a) f (ap (λ s. holds s f) (sym (shift x)) ∙ in')
]

pub runs_are_parts : (o : Opening) (runs : List (ℕ × ℕ × ℕ)) (slots : List (List ℕ)) → IsOpening o → IsLegal o (plan_journal o runs) →
    IsServed o.table.flows (plan_order o) slots → IsPartOf (schedule_of o (plan_journal o runs)) slots
runs_are_parts o runs slots ok legal served = part_of_served o.table.flows (plan_order o) (schedule_of o (plan_journal o runs)) slots (serves o runs ok legal) served

-- in the slots of a front the served schedule is the front
pub front_is : (flows : List Flow) (line : List ℕ) (a b : List (List ℕ)) → IsServedSoFar flows line a → IsServed flows line b → (k : ℕ) → k < length a →
    get_or b k [] ≡ get_or a k []
front_is flows line a b sa sb k lt = elim (cases_lt (length b) (length a)) [
  | inl past ↦ absurd (not_past flows line a b sa sb past)
  | inr le ↦
      let front : a ≡ take (length a) b = sym (take_all (length a) a (omega arith)) ∙ same_front flows line a b sa sb.so_far (length a) (omega arith) le in
      sym (ap (λ l. get_or l k []) front ∙ get_or-take (length a) b k [] lt)
]

-- a run after the runs of a plan
pub record IsNextRun (o : Opening) (runs : List (ℕ × ℕ × ℕ)) (after : List Entry) (d : Drive) : Type 0 where
  pub opening : IsOpening o
  pub legal : IsLegal o after
  pub in_range : InRange o after
  pub driven_is : IsDriven o (plan_journal o runs) after d
  pub alone : d.earlier ≡ []

pub legal_before : (o : Opening) (runs : List (ℕ × ℕ × ℕ)) (after : List Entry) (d : Drive) → IsNextRun o runs after d → IsLegal o (plan_journal o runs)
legal_before o runs after d h =
    let j = plan_journal o runs in
    let e : opened_in j d ≡ j = ap (λ l. j ++ l) h.alone ∙ append-nil j in
    subst (IsLegal o) e
    (legal_front o [] (opened_in j d) (opening d ∷ (d.between ++ closing d ∷ []))
    (legal_open o j (closing d ∷ []) d (subst (IsLegal o) h.driven_is.goes_on h.legal)))

-- sent whole it would serve the order too
pub whole_serves : (o : Opening) (runs : List (ℕ × ℕ × ℕ)) (after : List Entry) (d : Drive) → IsNextRun o runs after d →
    IsServedSoFar o.table.flows (plan_order o) (schedule_of o (plan_journal o runs) ++ replicate d.slots (driven o (plan_journal o runs) d))
whole_serves o runs after d n =
    let flows = o.table.flows in
    let h = n.driven_is in
    let j = plan_journal o runs in
    let j1 = opened_in j d in
    let a = schedule_of o j in
    let gs = driven o j d in
    let e : j1 ≡ j = ap (λ l. j ++ l) n.alone ∙ append-nil j in
    let x = driven_goes_on o j after d n.legal n.in_range h in
    let legal1 = legal_open o j (closing d ∷ []) d (subst (IsLegal o) h.goes_on n.legal) in
    let legal0 = legal_before o runs after d n in
    let line : line_of o j1 ≡ plan_order o = ap (line_of o) e ∙ line_is o runs n.opening in
    let same : (f : ℕ) → left_after flows a f ≡ owed o (state_of o j1) f =
    λ f. omega (arith, times_is_sent o j f legal0 (commands_fit o runs), ap (λ l. (state_of o l).sent f) e) in
    let grants : IsGrants flows (plan_order o) (left_after flows a) gs =
    same_grants flows (plan_order o) (owed o (state_of o j1)) (left_after flows a) gs (λ f lt some. omega (arith, some, same f))
    (λ f lt some. omega (arith, some, same f)) (subst (λ l. IsGrants flows l (owed o (state_of o j1)) gs) line x.grants) in
    let tells = entry_tells o j1 (d.between ++ closing d ∷ []) (opening d) legal1 in
    let (f, in') = opened_grant o (state_of o j1) tells.3 in
    let long = as_long o j after d n.legal h in
    run_goes_on flows (plan_order o) a gs d.slots f (serves o runs n.opening legal0) grants in' (λ g has'. omega (arith, long.owed g has', same g))

pub next_is_part : (o : Opening) (runs : List (ℕ × ℕ × ℕ)) (after : List Entry) (d : Drive) (slots : List (List ℕ)) → IsOpening o → IsLegal o after → InRange o after →
    IsDriven o (plan_journal o runs) after d → d.earlier ≡ [] →
    IsServed o.table.flows (plan_order o) slots → IsPartOf (schedule_of o after) slots
next_is_part o runs after d slots ok legal fit h alone served =
    let flows = o.table.flows in
    let j = plan_journal o runs in
    let a = schedule_of o j in
    let gs = driven o j d in
    let x = driven_goes_on o j after d legal fit h in
    let whole = whole_serves o runs after d (record { opening = ok; legal = legal; in_range = fit; driven_is = h; alone = alone }) in
    let part = part_of_served flows (plan_order o) (a ++ replicate d.slots gs) slots whole served in
    λ k g there.
    part k g
    (after_both a (driven_slots flows gs d) (replicate d.slots gs) (in_part (λ i f. nat_lt i (sent_from flows d f)) gs d.slots) k g
    (ap (λ l. holds (get_or l k []) g) (sym x.schedule) ∙ there))
