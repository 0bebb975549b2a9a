use Rattle.release_bound.proofs.LatestSteps.{LatestSoFar}
use Rattle.release_bound.proofs.step.latest_waiting.Given as goal

abbrev pub invariant-loop-coflow : goal.invariant-loop-coflow
invariant-loop-coflow l = LatestSoFar l.waiting l.arrivals l.latest l.last l.coflow
