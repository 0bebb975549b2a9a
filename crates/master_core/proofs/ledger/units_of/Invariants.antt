use Rattle.std.proofs.Common.{◌≡◌, map, take}
use Rattle.coflow_units.specs.declared.fabric.Flow.{Flow}
use Rattle.master_core.proofs.ledger.units_of.Given as goal

abbrev pub invariant-loop-flow : goal.invariant-loop-flow
invariant-loop-flow l = l.units.items ≡ map (λ (x : Flow). x.units) (take l.flow-index l.flows)
