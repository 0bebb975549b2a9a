use Rattle.std.proofs.Common.{◌+◌, ◌≤◌, ◌<◌, arith, length, subst, sym}
use Rattle.picture.proofs.CurveSteps.{CurveSoFar, curve_begins, curve_ends, curve_rises, curve_waits}
use Rattle.picture.proofs.curve.steps_of.Goals as goal

pub loop-place-init : goal.loop-place-init
loop-place-init c = subst (CurveSoFar c.args.ends.now 0) (sym c.new-steps.ensures.items) (curve_begins c.args.ends.now)

pub loop-place-preserved-then-comes_again : goal.loop-place-preserved-then-comes_again
loop-place-preserved-then-comes_again c =
    let k = c.loop-place.place in
    let lt : k < length c.args.ends.now = omega (arith, c.loop-place-test.true) in
    curve_waits c.args.ends.now k c.loop-place.steps.items c.loop-place.invariant lt c.if-comes_again.ensures

pub loop-place-preserved : goal.loop-place-preserved
loop-place-preserved c =
    let k = c.loop-place.place in
    let lt : k < length c.args.ends.now = omega (arith, c.loop-place-test.true) in
    subst (CurveSoFar c.args.ends.now (k + 1)) (sym c.in_ok-push.ensures.items)
    (curve_rises c.args.ends.now k c.loop-place.steps.items c.requires.sorted c.loop-place.invariant lt c.if-comes_again.ensures)

pub returns : goal.returns
returns c =
    let le : length c.args.ends.now ≤ c.loop-place.place = omega (arith, c.loop-place-test.false) in
    curve_ends c.args.ends.now c.loop-place.place c.loop-place.steps.items c.loop-place.invariant le
