use Rattle.live_model.proofs.OwnStands.{own_have, own_rise_over}
use Rattle.live_model.proofs.LevelSteps.{own_deeds_stand}
use Rattle.live_model.proofs.laws.own_entries_tell.Goals as goal

pub returns-clause-have : goal.returns-clause-have
returns-clause-have c = own_have

pub returns-clause-rise : goal.returns-clause-rise
returns-clause-rise c = own_rise_over

pub returns-clause-asked : goal.returns-clause-asked
returns-clause-asked c = λ journal client own deeds have kept. (own_deeds_stand journal client own deeds have kept).0

pub returns-clause-versions : goal.returns-clause-versions
returns-clause-versions c = λ journal client own deeds have kept. (own_deeds_stand journal client own deeds have kept).1
