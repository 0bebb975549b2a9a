use Rattle.plans.proofs.PlanLaw.{plan_bound, plan_four}
use Rattle.plans.proofs.laws.plan_is_within_four.Goals as goal

pub returns-clause-bound : goal.returns-clause-bound
returns-clause-bound c = plan_bound

pub returns-clause-served : goal.returns-clause-served
returns-clause-served c = plan_four
