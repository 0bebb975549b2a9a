use Rattle.release_bound.proofs.TotalSteps.{TotalSoFar}
use Rattle.release_bound.proofs.certificate.released_total.Given as goal

abbrev pub invariant-loop-place : goal.invariant-loop-place
invariant-loop-place l = TotalSoFar l.loads l.arrivals l.places l.value l.place
