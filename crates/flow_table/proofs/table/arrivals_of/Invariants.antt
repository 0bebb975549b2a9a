-- the arrivals so far
use Rattle.std.proofs.Common.{◌≡◌, map, take}
use Rattle.coflow_units.specs.declared.trace.CoflowLine.{CoflowLine}
use Rattle.flow_table.proofs.table.arrivals_of.Given as goal

abbrev pub invariant-loop-line : goal.invariant-loop-line
invariant-loop-line l = l.arrivals.items ≡ map (λ (x : CoflowLine). x.arrival) (take l.line-index l.lines)
