use Rattle.std.proofs.Common.{◌≡◌, map, nat_eq, take, unwrap_or}
use Rattle.coflow_units.specs.declared.trace.CoflowLine.{CoflowLine}
use Rattle.indexmap.specs.IndexMap.{get}
use Rattle.weights.proofs.weights.weights_by_number.Given as goal

-- The coflows up to here have their weights.
abbrev pub invariant-loop-coflow : goal.invariant-loop-coflow
invariant-loop-coflow l = l.weights.items ≡ map (λ (x : CoflowLine). unwrap_or (get nat_eq l.given x.id) 1) (take l.coflow-index l.coflows)
