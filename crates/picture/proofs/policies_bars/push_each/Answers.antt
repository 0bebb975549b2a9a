use Rattle.std.proofs.Common.{◌<◌, length, arith}
use Rattle.picture.specs.PoliciesSvg.{policy_bar}
use Rattle.picture.proofs.PolicySteps.{policy_more}
use Rattle.picture.proofs.policies_bars.push_each.Goals as goal

pub loop-place-preserved : goal.loop-place-preserved
loop-place-preserved c =
    let lt : c.loop-place.place < length c.as_slice-policies.result.now = omega (arith, c.loop-place-test.true) in
    policy_more (policy_bar c.args.picture.now) c.as_slice-policies.result.now c.loop-place.place c.index-policies-place.result c.args.text.now.items c.loop-place.text.items
    c.push_bar.new.text.items lt c.index-policies-place.is c.loop-place.invariant c.in_ok-push_bar.ensures
