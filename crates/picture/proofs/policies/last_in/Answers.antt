use Rattle.std.proofs.Common.{length, ltb-true, sym}
use Rattle.picture.proofs.PolicySteps.{last_greatest}
use Rattle.picture.proofs.policies.last_in.Goals as goal

pub returns-in-Some : goal.returns-in-Some
returns-in-Some c =
    last_greatest c.args.steps.now c.in-Some.step.now c.requires.ascending (ltb-true 0 (length c.args.steps.now) (sym (c.in-Some.ensures.item).0))
    (c.in-Some.ensures.item).1
