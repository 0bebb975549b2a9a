use Rattle.std.proofs.Common.{◌≡◌, ◌+◌, ◌-◌, subst, arith}
use Rattle.release_bound.specs.ReleaseOrder.{quarters_of}
use Rattle.release_bound.proofs.ReleaseSteps.{PlacesSoFar, order_of_places, places_more, places_none}
use Rattle.release_bound.proofs.step.place_all.Goals as goal

pub loop-number-init : goal.loop-number-init
loop-number-init c =
    places_none (quarters_of c.args.by) c.args.loads.now c.args.arrivals.now c.args.residuals.now c.args.waiting.now c.args.places.now
    c.requires.ready c.requires.count

pub loop-number-preserved : goal.loop-number-preserved
loop-number-preserved c =
    let k = c.loop-number.number - 1 in
    let next : c.loop-number.number ≡ k + 1 = omega arith in
    let so_far = subst (λ n. PlacesSoFar (quarters_of c.args.by) c.args.loads.now c.loop-number.loads c.args.arrivals.now c.args.residuals.now c.loop-number.residuals
    c.args.waiting.now c.loop-number.waiting c.loop-number.places n) next c.loop-number.invariant in
    places_more (quarters_of c.args.by) c.args.loads.now c.loop-number.loads c.next_place.new.loads c.args.arrivals.now c.args.residuals.now c.loop-number.residuals
    c.next_place.new.residuals c.args.waiting.now c.loop-number.waiting c.next_place.new.waiting c.loop-number.places k c.next_place.result
    so_far (omega (arith, c.loop-number.auto.places, c.loop-number.auto.number)) c.requires.arrivals_len c.next_place.ensures.chosen c.next_place.ensures.pays
    c.next_place.auto.residuals
    c.next_place.ensures.placed c.next_place.ensures.dropped

pub returns-clause-order : goal.returns-clause-order
returns-clause-order c = λ i arrival stands arrives.
    let none : c.loop-number.number ≡ 0 = omega arith in
    let so_far = subst (λ n. PlacesSoFar (quarters_of c.args.by) c.args.loads.now c.loop-number.loads c.args.arrivals.now c.args.residuals.now c.loop-number.residuals
    c.args.waiting.now c.loop-number.waiting c.loop-number.places n) none c.loop-number.invariant in
    order_of_places c.args.by i arrival c.args.loads.now c.loop-number.loads c.args.arrivals.now c.args.residuals.now c.loop-number.residuals
    c.args.waiting.now c.loop-number.waiting c.loop-number.places so_far stands arrives
