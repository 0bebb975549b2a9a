use Rattle.port_load.proofs.FlowSteps.{FilledSoFar}
use Rattle.port_load.proofs.loads.Loads.fill.Given as goal

abbrev pub invariant-loop-number : goal.invariant-loop-number
invariant-loop-number l = FilledSoFar l.fn.self l.self l.flows l.left l.present l.number
