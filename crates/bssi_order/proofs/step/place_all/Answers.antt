use Rattle.std.proofs.Common.{◌≡◌, ◌+◌, ◌-◌, subst, arith}
use Rattle.coflow_units.specs.declared.fabric.Side.TheVariants.{Egress, Ingress}
use Rattle.bssi_order.proofs.BoundSteps.{no_bound}
use Rattle.bssi_order.proofs.StandSteps.{PlacesSoFar, order_of_places, places_more, places_none}
use Rattle.bssi_order.proofs.step.place_all.Goals as goal

pub loop-number-init : goal.loop-number-init
loop-number-init c = record {
  so_far = places_none c.args.loads.now c.args.residuals.now c.args.waiting.now c.args.places.now c.requires.ready c.requires.count;
  ingress = no_bound c.args.loads.now Ingress c.requires.ready.totals_fit;
  egress = no_bound c.args.loads.now Egress c.requires.ready.totals_fit;
}

pub loop-number-preserved : goal.loop-number-preserved
loop-number-preserved c =
    let k = c.loop-number.number - 1 in
    let next : c.loop-number.number ≡ k + 1 = omega arith in
    let so_far = subst (λ n. PlacesSoFar c.args.loads.now c.loop-number.loads c.args.residuals.now c.loop-number.residuals c.args.waiting.now c.loop-number.waiting
    c.loop-number.places n) next c.loop-number.invariant.so_far in
    record {
      so_far = places_more c.args.loads.now c.loop-number.loads c.next_place.new.loads c.args.residuals.now c.loop-number.residuals c.next_place.new.residuals c.args.waiting.now
          c.loop-number.waiting c.next_place.new.waiting c.loop-number.places k c.next_place.result
          so_far (omega (arith, c.loop-number.auto.places, c.loop-number.auto.number)) c.next_place.ensures.chosen c.next_place.ensures.pays c.next_place.auto.residuals
          c.next_place.ensures.placed c.next_place.ensures.dropped;
      ingress = c.next_place.ensures.ingress_bounded;
      egress = c.next_place.ensures.egress_bounded;
    }

pub returns-clause-order : goal.returns-clause-order
returns-clause-order c = λ i stands.
    let none : c.loop-number.number ≡ 0 = omega arith in
    let so_far = subst (λ n. PlacesSoFar c.args.loads.now c.loop-number.loads c.args.residuals.now c.loop-number.residuals c.args.waiting.now c.loop-number.waiting
    c.loop-number.places n) none c.loop-number.invariant.so_far in
    order_of_places i c.args.loads.now c.loop-number.loads c.args.residuals.now c.loop-number.residuals c.args.waiting.now c.loop-number.waiting c.loop-number.places so_far stands
