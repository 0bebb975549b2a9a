use Rattle.std.proofs.Common.{length, subst, sym, ap, arith, take}
use Rattle.std.specs.Vec.{with_items}
use Rattle.std.proofs.lemmas.List.{with_items_is}
use Rattle.bssi_order.specs.Order.{IsOrder, entries_of}
use Rattle.coflow_units.proofs.OrderingLaws.{ordering_feasible, ordering_rests}
use Rattle.bssi_order.proofs.bssi.Bssi.run.Goals as goal

pub returns-clause-order : goal.returns-clause-order
returns-clause-order c = λ i of.
    let s = c.self.inside in
    let places = with_items_is s.places c.order-self-inside.new.places (omega (arith, c.order-self-inside.auto.places, ap length c.deref_mut.ensures.value)) in
    subst (λ ps. IsOrder i (take c.order-self-inside.result ps)) (sym places) (c.order-self-inside.ensures.order i of)

pub returns-clause-feasible : goal.returns-clause-feasible
returns-clause-feasible c = λ i of. ordering_feasible i (entries_of (take c.order-self-inside.result (with_items c.self.inside.places c.order-self-inside.new.places).items))
    (returns-clause-order c i of).ordering

pub returns-clause-below : goal.returns-clause-below
returns-clause-below c = λ i of. ordering_rests i (entries_of (take c.order-self-inside.result (with_items c.self.inside.places c.order-self-inside.new.places).items))
    (returns-clause-order c i of).ordering
