use Rattle.hall_plan.proofs.PlanRuns.{serves, serves_all}
use Rattle.hall_plan.proofs.laws.plans_serve_the_order.Goals as goal

pub returns-clause-so_far : goal.returns-clause-so_far
returns-clause-so_far c = serves

pub returns-clause-end : goal.returns-clause-end
returns-clause-end c = serves_all
