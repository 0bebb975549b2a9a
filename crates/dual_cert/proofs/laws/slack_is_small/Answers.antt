use Rattle.dual_cert.proofs.SlackLaw.{slack_by_loads, slack_two_each, slack_by_fronts}
use Rattle.dual_cert.proofs.laws.slack_is_small.Goals as goal

pub returns-clause-by_loads : goal.returns-clause-by_loads
returns-clause-by_loads c = slack_by_loads

pub returns-clause-two_each : goal.returns-clause-two_each
returns-clause-two_each c = slack_two_each

pub returns-clause-by_fronts : goal.returns-clause-by_fronts
returns-clause-by_fronts c = slack_by_fronts
