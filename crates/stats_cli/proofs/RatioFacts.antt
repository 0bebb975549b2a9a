-- Where only the ratio speaks against a report, its schedule, its cost and its bound are right.
use Rattle.std.proofs.Common.{◌≡◌, ℕ, ◌+◌, ◌-◌, ◌≤◌, ◌<◌, inl, inr, cond, List, [], length, map, take, get_or, refl, sym, subst, arith, zero, suc}
use Rattle.std.specs.Prelude.{◌==◌, All, None, Option, Some, slice_index}
use Rattle.std.specs.List.{list_any}
use Rattle.std.specs.List.Sorted.{IsStrictlyIncreasing}
use Rattle.std.proofs.lemmas.Bool.{cases_eq, cases_lt}
use Rattle.std.proofs.lemmas.List.{get_or_default}
use Rattle.coflow_units.specs.declared.plan.Run.{Run}
use Rattle.coflow_units.specs.Certificate.{IsCertificate, IsFeasible, bound, budget, used}
use Rattle.coflow_units.specs.Completion.{cost}
use Rattle.coflow_units.specs.Flows.{Instance}
use Rattle.coflow_units.specs.Schedule.{IsValid}
use Rattle.flow_table.specs.Table.{TableFacts, instance_of}
use Rattle.report_text.specs.declared.value.PlaceLine.{PlaceLine}
use Rattle.report_text.specs.declared.value.Report.{Report}
use Rattle.report_text.specs.Report.{IsReport}
use Rattle.report_text.specs.Text.{place_at}
use Rattle.schedule_model.specs.RunList.{IsKept, slots_in}
use Rattle.schedule_model.proofs.RunSlots.{all_runs, each_more}
use Rattle.cert_check.specs.declared.verdict.Reason.TheVariants.{BoundTooHigh, ClashIn, CostWrong, Infeasible, NoFlow, NotPermutation, PortRange, RatioBroken, UnitsOf}
use Rattle.cert_check.specs.Places.{IsFirstOutOfRange, IsFirstWrong, IsNew, IsNotNew, IsWrong, NamesEach, certificate_in, coflow_with, ids_in}
use Rattle.cert_check.specs.Reasons.{HasReason, IsFirstReason}
use Rattle.cert_check.proofs.IdSteps.{found}
use Rattle.cert_check.proofs.InstanceFacts.{is_certificate}
use Rattle.cert_check.proofs.NameSteps.{NamedSoFar, is_new, is_not_new, named_all, named_short}
use Rattle.cert_check.proofs.SlotSteps.{runs_kept}
use Rattle.stats_cli.specs.Rests.{HasRightNumbers}
use Rattle.stats_cli.proofs.FirstFacts.{all_served, clear_slots, names_flows, none_at_all}

-- ---- either a place is the first wrong one, or all coflows are named

new_unless_not : (ids stated : List ℕ) (k : ℕ) → (IsNotNew ids stated k → ⊥) → IsNew ids stated k
new_unless_not ids stated k never = go (cond (list_any (λ x. x == slice_index stated k) (take k stated)) None (found ids (slice_index stated k))) refl
  where
    go : (o : Option ℕ) → o ≡ cond (list_any (λ x. x == slice_index stated k) (take k stated)) None (found ids (slice_index stated k)) → IsNew ids stated k
    go (Some coflow) e = (is_new ids stated k (Some coflow) coflow (list_any (λ x. x == slice_index stated k) (take k stated)) refl e refl).0
    go None e = absurd (never (is_not_new ids stated k None (list_any (λ x. x == slice_index stated k) (take k stated)) refl e refl))

abbrev NoneWrong : List ℕ → List ℕ → Type 0
NoneWrong ids stated = (place : ℕ) → IsFirstWrong ids stated place → ⊥

all_new : (ids stated : List ℕ) (k : ℕ) → NoneWrong ids stated → k ≤ length stated → (j : ℕ) → j < k → IsNew ids stated j
all_new ids stated zero none le j lt = absurd (omega arith)
all_new ids stated (suc k) none le j lt =
    let new = all_new ids stated k none (omega arith) in
    elim (cases_lt j k) [
      | inl earlier ↦ new j earlier
      | inr upto ↦
          let e : k ≡ j = omega arith in
          subst (λ n. IsNew ids stated n) e (new_unless_not ids stated k (λ not_new.
          let at : k ≡ k + 1 - 1 = omega arith in
          let wrong : IsFirstWrong ids stated (k + 1) =
          record { counted = omega arith; wrong = subst (λ n. IsWrong ids stated n) at (inl (omega arith, not_new)); before = λ j lt. new j (omega arith) } in
          none (k + 1) wrong))
    ]

all_named : (ids stated : List ℕ) → NoneWrong ids stated → NamesEach (length ids) (map (coflow_with ids) stated)
all_named ids stated none =
    let k = length stated in
    let coflows = map (coflow_with ids) (take k stated) in
    let so_far : NamedSoFar ids stated k (λ id. cond (list_any (λ x. x == id) (take k stated)) None (found ids id)) coflows =
    record { inside = omega arith; coflows_are = refl; left_are = λ id. refl; new = all_new ids stated k none (omega arith) } in
    elim (cases_lt (length coflows) (length ids)) [
      | inl less ↦ absurd (none (length coflows + 1) (named_short ids stated k _ coflows (length coflows + 1) so_far (omega arith) less refl))
      | inr many ↦ (named_all ids stated k _ coflows so_far (omega arith) many).1
    ]

-- ---- ports

record OutOfRange (ports : ℕ) (places : List PlaceLine) (k : ℕ) : Type 0 where
  inside : k < length places
  beyond : ports ≤ (place_at places k).port.number

first_out_of_range : (ports : ℕ) (places : List PlaceLine) (k : ℕ) → OutOfRange ports places k → ((m : ℕ) → m < k → OutOfRange ports places m → ⊥) →
    IsFirstOutOfRange ports places (k + 1) (place_at places (k + 1 - 1)).port.number
first_out_of_range ports places k here less =
    let e : k ≡ k + 1 - 1 = omega arith in
    record {
      counted = omega arith;
      inside = omega (arith, here.inside);
      has = refl;
      beyond = subst (λ n. ports ≤ (place_at places n).port.number) e here.beyond;
      before = λ m lt. elim (cases_lt (place_at places m).port.number ports) [
        | inl below ↦ below
        | inr beyond ↦ absurd (less m (omega (arith, lt)) (record { inside = omega (arith, lt, here.inside); beyond = beyond }))
      ];
    }

ports_within : (ports : ℕ) (places : List PlaceLine) → ((place number : ℕ) → IsFirstOutOfRange ports places place number → ⊥) →
    All (λ (p : PlaceLine). p.port.number < ports) places
ports_within ports places never k d lt =
    let same : get_or places k d ≡ place_at places k = get_or_default places k d _ lt in
    subst (λ (p : PlaceLine). p.port.number < ports) (sym same) (elim (cases_lt (place_at places k).port.number ports) [
      | inl below ↦ below
      | inr beyond ↦
          absurd (none_at_all (OutOfRange ports places) (λ m here less. never (m + 1) _ (first_out_of_range ports places m here less)) k (record { inside = lt; beyond = beyond }))
    ])

-- ---- budgets

within_budgets : (i : Instance) (ids : List ℕ) (r : Report) → ((coflow : ℕ) → HasReason i ids r (Infeasible coflow) → ⊥) → IsFeasible i.flows i.weight (certificate_in ids r.places)
within_budgets i ids r never coflow = elim (cases_lt (budget i.weight coflow) (used i.flows (certificate_in ids r.places) coflow)) [
  | inl above ↦
      absurd (none_at_all (λ c. budget i.weight c < used i.flows (certificate_in ids r.places) c) (λ c here less. never c (record { above = here; least = lower less })) coflow
      above)
  | inr within ↦ within
]
  where
    lower : {n : ℕ} → ((m : ℕ) → m < n → budget i.weight m < used i.flows (certificate_in ids r.places) m → ⊥) → (m : ℕ) → m < n →
        used i.flows (certificate_in ids r.places) m ≤ budget i.weight m
    lower less m lt = elim (cases_lt (budget i.weight m) (used i.flows (certificate_in ids r.places) m)) [
      | inl above ↦ absurd (less m lt above)
      | inr within ↦ within
    ]

-- ---- the slots of runs

slots_ascend : (runs : List Run) → IsKept runs → All IsStrictlyIncreasing (slots_in runs)
slots_ascend runs kept = subst (All IsStrictlyIncreasing) (all_runs runs (length runs) (omega arith)) (upto (length runs) (omega arith))
  where
    upto : (k : ℕ) → k ≤ length runs → All IsStrictlyIncreasing (slots_in (take k runs))
    upto zero le = λ k d lt. absurd (omega (arith, lt))
    upto (suc k) le =
        let d : Run = record { length = 0; flows = [] } in
        let at : suc k ≡ k + 1 = omega arith in
        subst (λ n. All IsStrictlyIncreasing (slots_in (take n runs))) (sym at)
        (each_more IsStrictlyIncreasing runs k d (omega arith) (upto k (omega arith)) (kept.ascending k d (omega arith)))

-- ---- the whole

module _ (t : TableFacts) (weights : List ℕ) (r : Report) (cost_is most : ℕ) (is : IsReport r)
    (first : IsFirstReason (instance_of t weights) t.ids r (RatioBroken cost_is most)) where
  abbrev i : Instance
  i = instance_of t weights

  abbrev slots : List (List ℕ)
  slots = slots_in r.runs

  valid : IsValid t.flows slots
  valid =
      let names = names_flows t.flows slots (λ slot f bad. first.first (NoFlow slot f) (omega arith) bad) in
      let clear = clear_slots t.flows slots names (λ slot p bad. first.first (ClashIn slot p) (omega arith) bad) (slots_ascend r.runs (runs_kept r is)) in
      record {
        clear = clear;
        served = all_served t.flows slots clear (λ f have want bad. first.first (UnitsOf f have want) (omega arith) bad);
      }

  certificate : IsCertificate i (certificate_in t.ids r.places)
  certificate =
      is_certificate t weights r.places (all_named t.ids (ids_in r.places) (λ place bad. first.first (NotPermutation place) (omega arith) bad))
      (ports_within t.ports r.places (λ place number bad. first.first (PortRange place number) (omega arith) bad))

  low : r.bound ≤ bound t.flows (certificate_in t.ids r.places)
  low = elim (cases_lt (bound t.flows (certificate_in t.ids r.places)) r.bound) [
    | inl high ↦ absurd (first.first (BoundTooHigh r.bound (bound t.flows (certificate_in t.ids r.places))) (omega arith) (refl, refl, high))
    | inr within ↦ within
  ]

  right_cost : r.cost ≡ cost t.flows i.weight i.coflows slots
  right_cost = elim (cases_eq r.cost (cost t.flows i.weight i.coflows slots)) [
    | inl same ↦ same
    | inr differ ↦ absurd (first.first (CostWrong r.cost (cost t.flows i.weight i.coflows slots)) (omega arith) (refl, refl, differ))
  ]

  pub right_numbers : HasRightNumbers i t.ids r
  right_numbers = record {
    certificate = certificate;
    feasible = within_budgets i t.ids r (λ coflow bad. first.first (Infeasible coflow) (omega arith) bad);
    bound_is_low = low;
    valid = valid;
    cost_is = right_cost;
  }
