-- A table has a plan, and what a hall's plan sends is told of the table that its master was made of.
use Rattle.std.proofs.Common.{◌≡◌, ℕ, ◌≤◌, ◌<◌, List, length, subst, arith}
use Rattle.std.specs.Prelude.{All, Option}
use Rattle.std.specs.List.{slice_index_or}
use Rattle.coflow_units.specs.declared.limits.TheConstants.{MAX_WEIGHT}
use Rattle.coflow_units.specs.Flows.{coflow_of}
use Rattle.coflow_units.proofs.ServedExists.{serve, served_exists}
use Rattle.flow_table.specs.Table.{IsTable, TableFacts, instance_of}
use Rattle.slot_runner.specs.Cuts.{HaveStopped}
use Rattle.hall_plan.specs.Journals.{IsPlanBegun}
use Rattle.hall_plan.specs.Journals.{plan_order}
use Rattle.hall_plan.specs.Plans.{IsPlanned}
use Rattle.slot_runner.specs.Wires.{AreUnits, HaveMore, StopsAt}
use Rattle.hall_plan.proofs.Begun.{in_order, plan_ordering}
use Rattle.slot_runner.proofs.WireSteps.{untouched}
use Rattle.journal.specs.declared.opening.Opening.{Opening}
use Rattle.journal.specs.Chosen.{the_ordering}
use Rattle.journal.specs.State.{IsOpening}
use Rattle.outside.specs.Rose.{Rose}
use Rattle.hall_plan.specs.Sent.{SendsPart, StopsShort}

planned_opening : (o : Opening) → IsOpening o → (slots : List (List ℕ)) × IsPlanned o.table o.weights slots
planned_opening o ok = (
  serve o.table.flows (plan_order o),
  record {
    entries = the_ordering (instance_of o.table o.weights);
    ordering = plan_ordering o ok;
    served = served_exists o.table.flows (plan_order o)
        (λ f lt some. in_order o ok (coflow_of o.table.flows f) (ok.table.coflow f record { coflow = 0; ingress = 0; egress = 0; units = 0 } lt));
  },
)

module _ (t : TableFacts) (weights : List ℕ) where
  -- the table is within its limits, and each coflow has a weight
  pub record MayBePlanned : Type 0 where
    pub table : IsTable t
    pub count : length weights ≡ length t.ids
    pub least : All (λ w. 1 ≤ w) weights
    pub most : All (λ w. w ≤ MAX_WEIGHT) weights

  pub planned_table : MayBePlanned → (slots : List (List ℕ)) × IsPlanned t weights slots
  planned_table may = planned_opening (record { table = t; weights = weights; limit = 1 }) (record {
    table = may.table;
    each_weight = may.count;
    weight = λ k d lt. (may.least k d lt, may.most k d lt);
    limit = omega arith;
    few_entries = omega arith;
  })

module _ {W : Type 0} (faults : W → ℕ) (runs : W → Option (List (ℕ × ℕ × ℕ))) (t : TableFacts) (weights : List ℕ) where
  abbrev Parts : List W → List W → TableFacts → List ℕ → Type 0
  Parts before after u ws = (slots : List (List ℕ)) → IsPlanned u ws slots → HaveMore runs (AreUnits u.flows slots) u.ports before after

  -- nothing was sent
  pub sends_nothing : MayBePlanned t weights → (wires : List W) → t.ports ≤ length wires → SendsPart runs wires wires t weights
  sends_nothing may wires long =
      let (slots, planned) = planned_table t weights may in
      record { slots = slots; planned = planned; sent = untouched faults runs t.flows slots t.ports wires long }

  module _ (o : Opening) (same : o.table ≡ t) (equal : o.weights ≡ weights) (may : MayBePlanned t weights) (before after : List W) where
    pub sends_part : Parts before after o.table o.weights → SendsPart runs before after t weights
    sends_part h =
        let (slots, planned) = planned_table t weights may in
        let moved : Parts before after t weights = subst (λ ws. Parts before after t ws) equal (subst (λ u. Parts before after u o.weights) same h) in
        record { slots = slots; planned = planned; sent = moved slots planned }

    abbrev Stops : ℕ → TableFacts → List ℕ → Type 0
    Stops port u ws = (slots : List (List ℕ)) → IsPlanned u ws slots → (end : ℕ) × HaveMore runs (StopsAt u.flows slots port end) u.ports before after

    abbrev Fails : ℕ → TableFacts → Type 0
    Fails port u = (port < u.ports) × ((b a : W) → Rose (faults (slice_index_or before port b)) (faults (slice_index_or after port a)))

    pub stops_short : (port : ℕ) → t.ports ≤ length before → Fails port o.table → Stops port o.table o.weights →
        HaveStopped runs (IsPlanBegun o) o port before after → StopsShort faults runs before after port t weights
    stops_short port long fails h stopped =
        let (slots, planned) = planned_table t weights may in
        let moved : Stops port t weights = subst (λ ws. Stops port t ws) equal (subst (λ u. Stops port u o.weights) same h) in
        let there : Fails port t = subst (λ u. Fails port u) same fails in
        record {
          fits = there.0;
          wire = omega (arith, there.0, long);
          rose = there.1;
          slots = slots;
          planned = planned;
          last = (moved slots planned).0;
          least = (moved slots planned).1;
          opening = o;
          table_is = same;
          weights_are = equal;
          stopped = stopped;
        }
