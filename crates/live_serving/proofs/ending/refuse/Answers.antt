use Rattle.live_serving.proofs.EndingRuns.{never_filled}
use Rattle.live_serving.proofs.ending.refuse.Goals as goal

pub unreachable-requires : goal.unreachable-requires
unreachable-requires c =
    let (most, filled) = c.requires.filled in
    never_filled c.args.run.hall c.args._script.now most c.args.driver c.args.run.sessions.items c.in-Ok._master filled c.in-Ok.ensures
