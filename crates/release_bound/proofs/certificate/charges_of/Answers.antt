use Rattle.std.proofs.Common.{◌<◌, ◌++◌, ◌∷◌, [], length, length-set, sym, ap, ◌∙◌, arith}
use Rattle.std.proofs.lemmas.List.{take_more_set}
use Rattle.release_bound.specs.ReleaseTable.{charge_of}
use Rattle.release_bound.proofs.ChargeSteps.{charge_more, few_places, place_at}
use Rattle.release_bound.proofs.certificate.charges_of.Goals as goal

pub bounds-charges-place : goal.bounds-charges-place
bounds-charges-place c = omega (arith, few_places c.args.loads.now c.args.places.now c.requires, c.coflows.ensures.limit, c.loop-place-test.true)

pub loop-place-preserved : goal.loop-place-preserved
loop-place-preserved c =
    let k = c.loop-place.place in
    let v = charge_of (place_at c.args.places.now k) in
    let lt : k < length c.args.places.now = omega (arith, c.loop-place-test.true) in
    let lt' : k < length c.loop-place.charges = omega (arith, bounds-charges-place c, c.loop-place.invariant.len) in
    record {
      len = length-set c.loop-place.charges k v ∙ c.loop-place.invariant.len;
      written = take_more_set c.loop-place.charges k v lt' ∙ ap (λ l. l ++ v ∷ []) c.loop-place.invariant.written ∙ sym (charge_more c.args.places.now k lt);
    }
