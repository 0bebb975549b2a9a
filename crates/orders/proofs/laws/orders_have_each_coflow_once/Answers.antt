use Rattle.orders.proofs.Once.{order_all, order_distinct, order_known}
use Rattle.orders.proofs.laws.orders_have_each_coflow_once.Goals as goal

pub returns-clause-distinct : goal.returns-clause-distinct
returns-clause-distinct c text ids differ e = order_distinct text ids e

pub returns-clause-known : goal.returns-clause-known
returns-clause-known c text ids e = order_known text ids e

pub returns-clause-all : goal.returns-clause-all
returns-clause-all c text ids coflow differ e lt = order_all text ids e coflow lt
