use Rattle.std.proofs.Common.{◌≡◌, take}
use Rattle.std.specs.Prelude.{map}
use Rattle.coflow_units.specs.declared.fabric.Flow.{Flow}
use Rattle.epochs.proofs.tallies.units_of_flows.Given as goal

abbrev pub invariant-loop-flow : goal.invariant-loop-flow
invariant-loop-flow l = l.left.items ≡ map (λ (x : Flow). x.units) (take l.flow-index l.flows)
