use Rattle.std.proofs.Common.{subst, sym}
use Rattle.bssi_order.specs.Order.{IsOrder}
use Rattle.flow_table.specs.Table.{instance_of}
use Rattle.plans.proofs.planning.bound_of.Goals as goal

pub values_of-requires-clause-order : goal.values_of-requires-clause-order
values_of-requires-clause-order c =
    subst (IsOrder (instance_of c.args.table.now c.args.weights.now)) (sym c.places.ensures) c.in_ok-order.ensures.order

pub returns : goal.returns
returns c = record {
  order = c.places.result.now;
  ordering = subst (IsOrder (instance_of c.args.table.now c.args.weights.now)) (sym c.places.ensures) c.in_ok-order.ensures.order;
  bound_is = c.in_ok-values.ensures.bound;
}
