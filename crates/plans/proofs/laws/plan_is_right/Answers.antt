use Rattle.plans.proofs.PlanSound.{ids_differ, plan_has_yes, plan_is_sound}
use Rattle.plans.proofs.laws.plan_is_right.Goals as goal

pub returns-clause-sound : goal.returns-clause-sound
returns-clause-sound c = λ t weights r is once p. plan_is_sound t weights r is.table once is.count is.least p

pub returns-clause-verdict : goal.returns-clause-verdict
returns-clause-verdict c = λ t weights r verdict is once p. plan_has_yes t weights r verdict is.table once is.count is.least p

pub returns-clause-ids : goal.returns-clause-ids
returns-clause-ids c = ids_differ
