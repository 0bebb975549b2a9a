use Rattle.live_model.proofs.Given.{journal_is_sent, legal_is_granted, pull_is_answered}
use Rattle.live_model.proofs.laws.journals_give.Goals as goal

pub returns-clause-granted : goal.returns-clause-granted
returns-clause-granted c = legal_is_granted

pub returns-clause-sent : goal.returns-clause-sent
returns-clause-sent c = journal_is_sent

pub returns-clause-pulls : goal.returns-clause-pulls
returns-clause-pulls c = pull_is_answered
