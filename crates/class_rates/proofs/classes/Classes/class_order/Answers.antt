use Rattle.std.proofs.Common.{ℕ, sym, subst}
use Rattle.std.specs.List.{slice_index_or}
use Rattle.coflow_units.specs.Flows.{IsDistinct}
use Rattle.class_rates.proofs.ClassOrders.{order_distinct}
use Rattle.class_rates.proofs.classes.Classes.class_order.Goals as goal

pub returns-clause-distinct : goal.returns-clause-distinct
returns-clause-distinct c =
    subst IsDistinct (sym c.deref.ensures.value)
    (order_distinct (λ (k : ℕ). slice_index_or c.self.inside.numbers.items k 0) c.self.inside.order.items c.self.invariant.order_is.sorted)
