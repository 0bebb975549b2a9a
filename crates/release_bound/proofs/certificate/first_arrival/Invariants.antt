use Rattle.std.proofs.Common.{◌-◌, ◌≤◌}
use Rattle.release_bound.proofs.ArrivalSteps.{FirstSoFar}
use Rattle.release_bound.proofs.certificate.first_arrival.Given as goal

abbrev pub invariant-loaded : goal.invariant-loaded
invariant-loaded l = record {
  within : l.coflow ≤ l.coflows;
  so_far : FirstSoFar l.loads l.charges l.place l.arrivals l.coflow l.first;
}

abbrev pub decreases-loaded : goal.decreases-loaded
decreases-loaded l = l.coflows - l.coflow
