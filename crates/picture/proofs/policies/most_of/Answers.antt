use Rattle.std.proofs.Common.{◌<◌, ◌≤◌, length, subst, arith}
use Rattle.std.proofs.lemmas.List.{take_all}
use Rattle.picture.specs.Policies.{costs_of}
use Rattle.picture.proofs.PolicySteps.{IsMostOf, costs_more, greatest_most, some_costs}
use Rattle.picture.proofs.policies.most_of.Goals as goal

pub loop-policy-preserved : goal.loop-policy-preserved
loop-policy-preserved c =
    let lt : c.loop-policy.policy-index < length c.args.policies.now = omega (arith, c.loop-policy-test.true) in
    costs_more c.args.policies.now c.loop-policy.policy-index c.policy-item.result c.loop-policy.most c.max-most.result lt c.policy-item.is c.max-most.ensures
    c.loop-policy.invariant

pub returns : goal.returns
returns c =
    let ps = c.args.policies.now in
    let all : length ps ≤ c.loop-policy.policy-index = omega (arith, c.loop-policy-test.false) in
    greatest_most (costs_of ps) c.loop-policy.most (some_costs ps c.requires)
    (subst (λ l. IsMostOf (costs_of l) c.loop-policy.most) (take_all c.loop-policy.policy-index ps all) c.loop-policy.invariant)
