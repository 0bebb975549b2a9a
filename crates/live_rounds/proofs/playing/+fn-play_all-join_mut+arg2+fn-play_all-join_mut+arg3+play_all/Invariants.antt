use Rattle.std.proofs.Common.{◌+◌, ◌*◌, length}
use Rattle.live_rounds.proofs.playing.+fn-play_all-join_mut+arg2+fn-play_all-join_mut+arg3+play_all.Given as goal

abbrev pub decreases-join_mut+arg2 : goal.decreases-join_mut+arg2
decreases-join_mut+arg2 g l = 2 * length l.a.now + 1

abbrev pub decreases-join_mut+arg3 : goal.decreases-join_mut+arg3
decreases-join_mut+arg3 g l = 2 * length l.b.now + 1

abbrev pub decreases-play_all : goal.decreases-play_all
decreases-play_all g l = 2 * length l.sessions.now
