use Rattle.std.proofs.Common.{◌<◌, length, arith}
use Rattle.picture.specs.PoliciesSvg.{name_label}
use Rattle.picture.proofs.PolicySteps.{policy_more}
use Rattle.picture.proofs.policies_bars.push_names.Goals as goal

pub loop-place-preserved : goal.loop-place-preserved
loop-place-preserved c =
    let lt : c.loop-place.place < length c.args.policies.now = omega (arith, c.loop-place-test.true) in
    policy_more name_label c.args.policies.now c.loop-place.place c.index-policies-place.result c.args.text.now.items c.loop-place.text.items
    c.push_name.new.text.items lt c.index-policies-place.is c.loop-place.invariant c.in_ok-push_name.ensures
