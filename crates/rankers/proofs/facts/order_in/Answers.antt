use Rattle.std.proofs.Common.{List, ap, ◌∙◌}
use Rattle.std.specs.Prelude.{map}
use Rattle.coflow_units.specs.declared.plan.Place.{Place}
use Rattle.bssi_order.specs.Order.{entries_of}
use Rattle.rankers.proofs.PlaceOrders.{order_of_places}
use Rattle.rankers.proofs.facts.order_in.Goals as goal

pub returns : goal.returns
returns c = record {
  entries = entries_of c.in_ok-order.order.places;
  ordering = c.in_ok-order.ensures.order.ordering;
  order_is = c.in_ok-coflows.ensures ∙ (ap (λ (places : List Place). map (λ (x : Place). x.coflow) places) c.places.ensures ∙ order_of_places c.in_ok-order.order.places);
}
