use Rattle.flow_table.specs.Table.{instance_of}
use Rattle.plans.specs.PlanReport.{coflows_of}
use Rattle.plans.proofs.AsServed.{as_served}
use Rattle.plans.proofs.PlanSlack.{served_slack, twice_the_fronts, two_for_each}
use Rattle.plans.proofs.laws.plan_slack_is_small.Goals as goal

pub returns-clause-two_each : goal.returns-clause-two_each
returns-clause-two_each c = two_for_each

pub returns-clause-by_fronts : goal.returns-clause-by_fronts
returns-clause-by_fronts c = twice_the_fronts

pub returns-clause-plan : goal.returns-clause-plan
returns-clause-plan c = λ t weights r is p. served_slack t weights (coflows_of p.order) r is (as_served (instance_of t weights) t.ids r p)
