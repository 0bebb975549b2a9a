use Rattle.port_load.proofs.CoflowSteps.{PresentSoFar}
use Rattle.port_load.proofs.loads.Loads.fill_by_coflow.Given as goal

abbrev pub invariant-loop-coflow : goal.invariant-loop-coflow
invariant-loop-coflow l = PresentSoFar l.fn.self l.self l.flows l.left l.present l.coflow
