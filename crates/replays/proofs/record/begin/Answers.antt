use Rattle.std.proofs.Common.{sym, subst}
use Rattle.flow_table.specs.Table.{TableFacts}
use Rattle.replays.specs.Recording.{HasRoomFor}
use Rattle.replays.proofs.Recordings.{begins_recorded}
use Rattle.replays.proofs.record.begin.Goals as goal

pub returns-clause-tells : goal.returns-clause-tells
returns-clause-tells c = λ x ranker input table weights.
    let made = c.in_ok-empty.ensures in
    let room = subst (λ (t : TableFacts). HasRoomFor t x.weights c.in_ok-empty.field-0) (sym table)
    (subst (λ w. HasRoomFor c.args.table.now w c.in_ok-empty.field-0) (sym weights) made.room) in
    begins_recorded x ranker c.in_ok-kept.kept c.in_ok-empty.field-0 (c.in_ok-kept.ensures.tells x ranker input table weights) room made.epochs made.schedule
