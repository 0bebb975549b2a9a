use Rattle.std.proofs.Common.{◌≤◌, length, rules, arith}
use Rattle.dual_cert.proofs.FirstPlaces.{coflow_in}
use Rattle.dual_cert.proofs.PlaceSteps.{placed_all, placed_more, placed_none}
use Rattle.dual_cert.proofs.fronts.places_of.Goals as goal

pub loop-place-init : goal.loop-place-init
loop-place-init c =
    let few : length c.args.charges.now ≤ 18446744073709551615 = search rules in
    placed_none c.args.charges.now 18446744073709551615 few

pub bounds-places-charges : goal.bounds-places-charges
bounds-places-charges c = omega (arith, coflow_in c.args.loads.now c.args.charges.now c.loop-place.place c.requires.certificate (omega arith), c.coflows.ensures.limit)

pub loop-place-preserved : goal.loop-place-preserved
loop-place-preserved c = placed_more c.args.loads.now c.args.charges.now c.loop-place.places c.loop-place.place c.requires.certificate c.coflows.ensures.limit
    c.loop-place.invariant (omega arith)

pub returns : goal.returns
returns c = placed_all c.args.charges.now c.loop-place.places c.loop-place.place c.loop-place.invariant (omega arith)
