use Rattle.std.proofs.Common.{◌∙◌}
use Rattle.online_check.proofs.ReleasedSteps.{released_more}
use Rattle.online_check.proofs.places.released.Goals as goal

pub loop-index-preserved : goal.loop-index-preserved
loop-index-preserved c = λ ids named.
    c.in_ok-push.ensures.items ∙ released_more ids c.args.coflows.now c.args.lines.now c.loop-index.index c.loop-index.places.items c.released_place.result named
    (c.loop-index.invariant ids named) c.loop-index-test.true c.released_place.ensures
