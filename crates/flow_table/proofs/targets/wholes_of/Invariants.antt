-- the wholes of the reducers so far
use Rattle.std.proofs.Common.{◌≡◌, ℕ, ◌<◌, length}
use Rattle.std.specs.Prelude.{slice_index}
use Rattle.flow_table.proofs.TargetSteps.{wholes_upto}
use Rattle.flow_table.proofs.targets.wholes_of.Given as goal

abbrev pub invariant-loop-reducer : goal.invariant-loop-reducer
invariant-loop-reducer l = record {
  count : length l.wholes.items ≡ l.ports;
  so_far : (e : ℕ) → e < l.ports → slice_index l.wholes.items e ≡ wholes_upto l.unit.megabytes l.line l.reducer-index e;
}
