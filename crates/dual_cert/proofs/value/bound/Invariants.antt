use Rattle.dual_cert.proofs.ValueSteps.{ValueSoFar}
use Rattle.dual_cert.proofs.value.bound.Given as goal

abbrev pub invariant-loop-place : goal.invariant-loop-place
invariant-loop-place l = ValueSoFar l.loads l.charges l.value l.place
