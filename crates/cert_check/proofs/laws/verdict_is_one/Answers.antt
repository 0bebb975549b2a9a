use Rattle.cert_check.proofs.OneVerdict.{one_verdict}
use Rattle.cert_check.proofs.laws.verdict_is_one.Goals as goal

pub returns : goal.returns
returns c = one_verdict
