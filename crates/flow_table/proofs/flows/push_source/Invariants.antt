-- the flows to the targets so far
use Rattle.std.proofs.Common.{ℕ, ◌^◌, ◌≤◌, length}
use Rattle.flow_table.specs.FlowsOf.{HaveUnitsBefore}
use Rattle.flow_table.specs.Targets.{SendsTo}
use Rattle.flow_table.proofs.RowSteps.{RowSoFar}
use Rattle.flow_table.proofs.flows.push_source.Given as goal

abbrev pub invariant-loop-target : goal.invariant-loop-target
invariant-loop-target l = record {
  few : length l.flows.items ≤ 2 ^ 20;
  so_far : (sends : ℕ → ℕ → ℕ → ℕ) → SendsTo (sends l.coflow l.ingress) l.places l.targets l.rests → HaveUnitsBefore sends l.coflow l.ingress 0 l.fn.flows.items
      → RowSoFar sends l.coflow l.ingress l.targets l.target-index l.flows.items;
}
