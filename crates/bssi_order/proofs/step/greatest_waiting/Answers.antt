use Rattle.std.proofs.Common.{◌≡◌, length, subst, arith}
use Rattle.bssi_order.proofs.TableSteps.{GreatestSoFar, greatest_of}
use Rattle.bssi_order.proofs.step.greatest_waiting.Goals as goal

pub returns : goal.returns
returns c =
    let end : c.loop-coflow.coflow ≡ length c.args.waiting.now = omega arith in
    greatest_of c.args.waiting.now c.loop-coflow.greatest (subst (λ n. GreatestSoFar c.args.waiting.now c.loop-coflow.greatest n) end c.loop-coflow.invariant) c.requires.some
