use Rattle.std.proofs.Common.{◌≡◌, length}
use Rattle.master_runs.proofs.game.play_lines.Given as goal

abbrev pub invariant-loop-fields : goal.invariant-loop-fields
invariant-loop-fields l = l.master.opening ≡ l.initial.master.opening

abbrev pub decreases-loop-fields : goal.decreases-loop-fields
decreases-loop-fields l = length l.lines
