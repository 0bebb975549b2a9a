use Rattle.online_check.proofs.OneJudgement.{judgement_one}
use Rattle.online_check.proofs.laws.judgement_is_one.Goals as goal

pub returns : goal.returns
returns c = judgement_one
