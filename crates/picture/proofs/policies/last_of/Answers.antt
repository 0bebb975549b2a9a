use Rattle.std.proofs.Common.{◌<◌, ◌≤◌, length, map, subst, arith}
use Rattle.std.proofs.lemmas.List.{take_all}
use Rattle.picture.specs.declared.value.Step.{Step}
use Rattle.picture.specs.Policies.{IsGreatestOf, step_slots}
use Rattle.picture.proofs.PolicySteps.{IsMostOf, greatest_most, slots_more, some_slots}
use Rattle.picture.proofs.policies.last_of.Goals as goal

pub loop-policy-preserved : goal.loop-policy-preserved
loop-policy-preserved c =
    let x = c.policy-item.result in
    let lt : c.loop-policy.policy-index < length c.args.policies.now = omega (arith, c.loop-policy-test.true) in
    let mine : IsGreatestOf (map (λ (s : Step). s.slot) x.steps) c.last_in.result =
    subst (λ l. IsGreatestOf (map (λ (s : Step). s.slot) l) c.last_in.result) c.as_slice.ensures c.last_in.ensures in
    slots_more c.args.policies.now c.loop-policy.policy-index x c.last_in.result c.loop-policy.last c.max-last.result lt c.policy-item.is c.max-last.ensures mine
    c.loop-policy.invariant

pub returns : goal.returns
returns c =
    let ps = c.args.policies.now in
    let all : length ps ≤ c.loop-policy.policy-index = omega (arith, c.loop-policy-test.false) in
    greatest_most (step_slots ps) c.loop-policy.last (some_slots ps c.requires.some c.requires.each)
    (subst (λ l. IsMostOf (step_slots l) c.loop-policy.last) (take_all c.loop-policy.policy-index ps all) c.loop-policy.invariant)
