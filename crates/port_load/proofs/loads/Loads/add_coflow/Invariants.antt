use Rattle.port_load.proofs.CoflowSteps.{AddedSoFar}
use Rattle.port_load.proofs.loads.Loads.add_coflow.Given as goal

abbrev pub invariant-loop-number : goal.invariant-loop-number
invariant-loop-number l = AddedSoFar l.fn.self l.self l.flows l.left l.coflow l.pending l.number
