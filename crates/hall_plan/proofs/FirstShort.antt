-- Where a run was not sent whole, the port that stopped it: what the wires of the lesser ports have, and what its own lacks.
use Rattle.std.proofs.Common.{◌≡◌, ℕ, ◌+◌, ◌-◌, ◌≤◌, ◌<◌, inl, inr, Bool, true, false, true≢false}
use Rattle.std.proofs.Common.{List, [], ◌++◌, Some, get_or, length, refl, replicate, sym, ap, ◌∙◌, arith, suc, zero, cond}
use Rattle.std.specs.Prelude.{Contains, nat_lt, ◌==◌, ◌&&◌}
use Rattle.std.specs.List.{filter}
use Rattle.std.proofs.lemmas.Bool.{cases_Bool, cases_lt, eq-eqb, eqb-true, lt-ltb, ltb-true}
use Rattle.std.proofs.lemmas.List.{get_or-append-add, get_or_append_left, get_or-replicate, length-append, length-replicate}
use Rattle.std.proofs.lemmas.List.FromFn.{get_or-map-range_with_len}
use Rattle.coflow_units.specs.declared.fabric.Flow.{Flow}
use Rattle.coflow_units.specs.Flows.{ingress_of}
use Rattle.coflow_units.specs.Schedule.{holds, IsClear}
use Rattle.coflow_units.specs.Served.{IsServed}
use Rattle.coflow_units.proofs.Lists.{filter_in, keeps}
use Rattle.coflow_units.proofs.Sums.{any_has, any_in, any_not}
use Rattle.journal.specs.declared.command.Entry.{Entry}
use Rattle.journal.specs.declared.opening.Opening.{Opening}
use Rattle.journal.specs.Closed.{schedule_of, wire_of}
use Rattle.journal.specs.Driven.{Drive, driven, driven_slots, GoesOnByRun, sent_from}
use Rattle.journal.specs.Runs.{grant_in}
use Rattle.journal.proofs.Driving.{driven_goes_on}
use Rattle.journal.proofs.Ingresses.{grant_at, grant_is}
use Rattle.journal.proofs.Schedules.{schedule_length}
use Rattle.hall_plan.specs.Journals.{plan_journal, plan_order}
use Rattle.slot_runner.specs.Wires.{StopsAt, units_at}
use Rattle.hall_plan.proofs.PlanEntries.{commands_fit}
use Rattle.hall_plan.proofs.PlanParts.{front_is, IsNextRun, legal_before, whole_serves}
use Rattle.slot_runner.proofs.WireSteps.{all_units, unit_there}

module _ (o : Opening) (runs : List (ℕ × ℕ × ℕ)) (after : List Entry) (d : Drive) (n : IsNextRun o runs after d) (slots : List (List ℕ))
    (served : IsServed o.table.flows (plan_order o) slots) (clear : IsClear o.table.flows (driven o (plan_journal o runs) d)) where
  abbrev flows : List Flow
  flows = o.table.flows

  abbrev a : List (List ℕ)
  a = schedule_of o (plan_journal o runs)

  abbrev gs : List ℕ
  gs = driven o (plan_journal o runs) d

  -- what was sent of the granted flows in a slot of the run
  abbrev sent_in : ℕ → List ℕ
  sent_in i = filter (λ f. nat_lt i (sent_from flows d f)) gs

  goes : GoesOnByRun o (plan_journal o runs) after d
  goes = driven_goes_on o (plan_journal o runs) after d n.legal n.in_range n.driven_is

  first_is : d.first ≡ length a + 1
  first_is = goes.first ∙ sym (schedule_length o (plan_journal o runs) (legal_before o runs after d n) (commands_fit o runs))

  long : length (a ++ replicate d.slots gs) ≡ length a + d.slots
  long = omega (arith, length-append a (replicate d.slots gs), length-replicate d.slots gs)

  in_front : (k : ℕ) → k < length a → get_or (schedule_of o after) k [] ≡ get_or slots k []
  in_front k lt =
      ap (λ l. get_or l k []) goes.schedule ∙ get_or_append_left a (driven_slots flows gs d) [] k lt ∙
      sym (front_is flows (plan_order o) (a ++ replicate d.slots gs) slots (whole_serves o runs after d n) served k (omega (arith, lt, long)) ∙
      get_or_append_left a (replicate d.slots gs) [] k lt)

  in_run : (i : ℕ) → i < d.slots → get_or (schedule_of o after) (length a + i) [] ≡ sent_in i
  in_run i lt =
      ap (λ l. get_or l (length a + i) []) goes.schedule ∙ get_or-append-add a (driven_slots flows gs d) i [] ∙ get_or-map-range_with_len sent_in 0 d.slots i i [] lt (omega arith)

  in_whole : (i : ℕ) → i < d.slots → get_or slots (length a + i) [] ≡ gs
  in_whole i lt =
      front_is flows (plan_order o) (a ++ replicate d.slots gs) slots (whole_serves o runs after d n) served (length a + i) (omega (arith, lt, long)) ∙
      get_or-append-add a (replicate d.slots gs) i [] ∙ get_or-replicate d.slots i gs [] lt

  -- of a flow whose port sent all
  all_sent : (i f : ℕ) → i < d.slots → (Contains gs f → sent_from flows d f ≡ d.slots) → holds (sent_in i) f ≡ holds gs f
  all_sent i f lt whole = elim (cases_Bool (holds gs f)) [
    | inl there ↦
        let in' = any_has gs f there in
        any_in (sent_in i) f (keeps (λ g. nat_lt i (sent_from flows d g)) gs f in' (lt-ltb i (sent_from flows d f) (omega (arith, lt, whole in')))) ∙ sym there
    | inr not' ↦
        any_not (sent_in i) f
        (λ in'. true≢false (sym (any_in gs f (filter_in (λ g. nat_lt i (sent_from flows d g)) gs f in').0) ∙ not')) ∙ sym not'
  ]

  at_port : (b x y : Bool) → (b ≡ true → x ≡ y) → ◌≡◌ {A = ℕ} (cond (b && x) 1 0) (cond (b && y) 1 0)
  at_port false x y h = refl
  at_port true x y h = ap {B = ℕ} (λ z. cond z 1 0) (h refl)

  module _ (port flow units : ℕ) (granted : grant_in flows gs port ≡ Some flow) (units_is : d.sent port ≡ units) (short : units < d.slots)
      (least : (p f : ℕ) → p < port → grant_in flows gs p ≡ Some f → d.sent p ≡ d.slots) where
    abbrev last : ℕ
    last = d.first + units

    port_sent : (p f : ℕ) → p < port → ingress_of flows f ≡ p → Contains gs f → sent_from flows d f ≡ d.slots
    port_sent p f lt at in' = ap d.sent at ∙ least p f lt ((grant_at flows gs p f clear).1 (in', at))

    same_slot : (p k f : ℕ) → p < port → k + 1 ≤ last → ingress_of flows f ≡ p → holds (get_or (schedule_of o after) k []) f ≡ holds (get_or slots k []) f
    same_slot p k f lt le at = elim (cases_lt k (length a)) [
      | inl before ↦ ap (λ s. holds s f) (in_front k before)
      | inr past ↦
          let i = k - length a in
          let e : k ≡ length a + i = omega (arith, past) in
          let low : i < d.slots = omega (arith, le, first_is, short, e) in
          ap (λ s. holds s f) (ap (λ m. get_or (schedule_of o after) m []) e ∙ in_run i low) ∙ all_sent i f low (port_sent p f lt at) ∙
          sym (ap (λ s. holds s f) (ap (λ m. get_or slots m []) e ∙ in_whole i low))
    ]

    same_units : (p slot f : ℕ) → p < port → slot ≤ last → units_at flows (schedule_of o after) p slot f ≡ units_at flows slots p slot f
    same_units p zero f lt le = omega arith
    same_units p (suc k) f lt le =
        let e : suc k ≡ k + 1 = omega arith in
        let low : k + 1 ≤ last = omega (arith, le) in
        omega (
          arith,
          ap (λ s. units_at flows (schedule_of o after) p s f) e,
          ap (λ s. units_at flows slots p s f) e,
          unit_there flows (schedule_of o after) p k f,
          unit_there flows slots p k f,
          at_port (ingress_of flows f == p) (holds (get_or (schedule_of o after) k []) f) (holds (get_or slots k []) f)
              (λ at. same_slot p k f lt low (eqb-true (ingress_of flows f) p at)),
        )

    last_is : last ≡ length a + units + 1
    last_is = omega (arith, first_is)

    asked : units_at flows slots port last flow ≡ 1
    asked =
        let (in', at) = grant_is flows gs port flow granted in
        ap (λ s. units_at flows slots port s flow) last_is ∙ unit_there flows slots port (length a + units) flow ∙
        ap {B = ℕ} (λ b. cond (b && holds (get_or slots (length a + units) []) flow) 1 0) (eq-eqb (ingress_of flows flow) port at) ∙
        ap {B = ℕ} (λ s. cond (holds s flow) 1 0) (in_whole units short) ∙ ap {B = ℕ} (λ b. cond b 1 0) (any_in gs flow in')

    not_there : holds (sent_in units) flow ≡ false
    not_there =
        let (in', at) = grant_is flows gs port flow granted in
        any_not (sent_in units) flow
        (λ has'. absurd (
        let more = ltb-true units (sent_from flows d flow) (filter_in (λ g. nat_lt units (sent_from flows d g)) gs flow has').1 in
        omega (arith, more, units_is, ap d.sent at)
        ))

    lacks : units_at flows (schedule_of o after) port last flow ≡ 0
    lacks =
        let (in', at) = grant_is flows gs port flow granted in
        ap (λ s. units_at flows (schedule_of o after) port s flow) last_is ∙ unit_there flows (schedule_of o after) port (length a + units) flow ∙
        ap {B = ℕ} (λ b. cond (b && holds (get_or (schedule_of o after) (length a + units) []) flow) 1 0) (eq-eqb (ingress_of flows flow) port at) ∙
        ap {B = ℕ} (λ s. cond (holds s flow) 1 0) (in_run units short) ∙ ap {B = ℕ} (λ b. cond b 1 0) not_there

    pub stops : (p : ℕ) → StopsAt flows slots port last p (wire_of o after p)
    stops p = (
      λ lt slot f le. all_units o after p n.legal n.in_range slot f ∙ same_units p slot f lt le,
      λ same. (
        flow,
        ap (λ q. units_at flows slots q last flow) same ∙ asked,
        all_units o after p n.legal n.in_range last flow ∙ ap (λ q. units_at flows (schedule_of o after) q last flow) same ∙ lacks,
      ),
    )
