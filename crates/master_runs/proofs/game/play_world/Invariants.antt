use Rattle.std.proofs.Common.{length}
use Rattle.master_runs.proofs.game.play_world.Given as goal

abbrev pub decreases-loop-fields : goal.decreases-loop-fields
decreases-loop-fields l = length l.lines
