use Rattle.hall_plan.proofs.Begun.{left_is_whole, line_is, order_is}
use Rattle.hall_plan.proofs.laws.plans_publish_the_order.Goals as goal

pub returns-clause-left : goal.returns-clause-left
returns-clause-left c = left_is_whole

pub returns-clause-order : goal.returns-clause-order
returns-clause-order c = order_is

pub returns-clause-line : goal.returns-clause-line
returns-clause-line c = line_is
