-- The reply tells a version.
use Rattle.live_rounds.proofs.Coming.{tells_neither}
use Rattle.live_rounds.specs.Acts.{rank_in}
use Rattle.std.proofs.Common.{◌==◌}
use Rattle.live_rounds.proofs.line.pull_by_turn.Goals as goal

pub unreachable-requires : goal.unreachable-requires
unreachable-requires c =
    let r = c.in-Done.receipt in
    tells_neither r.reply (rank_in r.reply == 0) r.version (rank_in r.reply) (c.requires.reply r c.in-Done.is) c.in_default.not-Rank c.in_default.not-Unranked
