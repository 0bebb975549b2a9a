-- the least wrong number so far
use Rattle.std.proofs.Common.{slice_index}
use Rattle.cert_check.proofs.LeastSteps.{LeastSoFar}
use Rattle.cert_check.proofs.stated.least_wrong.Given as goal

abbrev pub invariant-loop-place : goal.invariant-loop-place
invariant-loop-place l = LeastSoFar l.coflows l.stated (slice_index l.real) l.place l.least
