use Rattle.online_check.proofs.OneOnline.{one_online_verdict}
use Rattle.online_check.proofs.laws.online_verdict_is_one.Goals as goal

pub returns : goal.returns
returns c = one_online_verdict
