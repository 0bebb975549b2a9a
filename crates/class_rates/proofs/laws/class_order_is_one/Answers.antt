use Rattle.class_rates.proofs.ClassOrders.{order_distinct, order_is_one}
use Rattle.class_rates.proofs.laws.class_order_is_one.Goals as goal

pub returns-clause-one : goal.returns-clause-one
returns-clause-one c = order_is_one

pub returns-clause-distinct : goal.returns-clause-distinct
returns-clause-distinct c = λ coflows class order is. order_distinct class order is.sorted
