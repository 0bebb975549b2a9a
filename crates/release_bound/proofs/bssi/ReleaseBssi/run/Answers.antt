use Rattle.std.proofs.Common.{length, reverse, subst, sym, ap, arith, take}
use Rattle.std.specs.Vec.{with_items}
use Rattle.std.proofs.lemmas.List.{with_items_is}
use Rattle.release_bound.specs.ReleaseOrder.{IsReleasedBy}
use Rattle.release_bound.proofs.ReleaseSteps.{released_feasible}
use Rattle.release_bound.proofs.bssi.ReleaseBssi.run.Goals as goal

pub returns-clause-order : goal.returns-clause-order
returns-clause-order c = λ i arrival of.
    let s = c.self.inside in
    let places = with_items_is s.places c.order-self-inside.new.places (omega (arith, c.order-self-inside.auto.places, ap length c.deref_mut.ensures.value)) in
    subst (λ ps. IsReleasedBy c.args.by i arrival (reverse (take c.order-self-inside.result ps))) (sym places) (c.order-self-inside.ensures.order i arrival of)

pub returns-clause-feasible : goal.returns-clause-feasible
returns-clause-feasible c = λ i arrival of. released_feasible c.args.by i arrival
    (reverse (take c.order-self-inside.result (with_items c.self.inside.places c.order-self-inside.new.places).items))
    (returns-clause-order c i arrival of)
