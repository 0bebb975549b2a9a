use Rattle.std.proofs.Common.{◌≡◌, length, subst, arith}
use Rattle.release_bound.proofs.LatestSteps.{LatestSoFar, latest_of}
use Rattle.release_bound.proofs.step.latest_waiting.Goals as goal

pub returns : goal.returns
returns c =
    let end : c.loop-coflow.coflow ≡ length c.args.waiting.now = omega arith in
    latest_of c.args.waiting.now c.args.arrivals.now c.loop-coflow.latest c.loop-coflow.last
    (subst (λ n. LatestSoFar c.args.waiting.now c.args.arrivals.now c.loop-coflow.latest c.loop-coflow.last n) end c.loop-coflow.invariant) c.requires.some
