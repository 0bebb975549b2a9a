use Rattle.release_bound.proofs.ChargeSteps.{LeastSoFar}
use Rattle.release_bound.proofs.certificate.released_infeasible.Given as goal

abbrev pub invariant-loop-place : goal.invariant-loop-place
invariant-loop-place l = LeastSoFar l.paid l.weights l.places l.place-index l.least
