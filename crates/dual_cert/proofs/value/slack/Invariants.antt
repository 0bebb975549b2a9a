use Rattle.dual_cert.proofs.ValueSteps.{UnspentSoFar}
use Rattle.dual_cert.proofs.value.slack.Given as goal

abbrev pub invariant-loop-place : goal.invariant-loop-place
invariant-loop-place l = UnspentSoFar l.loads l.weights l.charges l.unspent l.place
