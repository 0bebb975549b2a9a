-- the flows from the ingress ports so far, up to a location
use Rattle.std.proofs.Common.{ℕ, ◌-◌, ◌^◌, ◌≤◌, length}
use Rattle.flow_table.specs.FlowsOf.{HaveUnitsBefore}
use Rattle.flow_table.specs.Spots.{spots_at}
use Rattle.flow_table.specs.Targets.{SendsTo}
use Rattle.flow_table.proofs.SpotSteps.{StandsAt}
use Rattle.flow_table.proofs.flows.push_sources.Given as goal

abbrev pub invariant-sources : goal.invariant-sources
invariant-sources l = record {
  ingress : ℕ;
  at : StandsAt l.places ingress l.first;
  few : length l.flows.items ≤ 2 ^ 20;
  so_far : (sends : ℕ → ℕ → ℕ → ℕ) → ((i : ℕ) → SendsTo (sends l.coflow i) (spots_at l.places i) l.targets l.rests) → HaveUnitsBefore sends l.coflow 0 0 l.fn.flows.items
      → HaveUnitsBefore sends l.coflow ingress 0 l.flows.items;
}

abbrev pub decreases-sources : goal.decreases-sources
decreases-sources l = length l.places - l.first
