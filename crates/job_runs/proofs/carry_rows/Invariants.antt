use Rattle.std.proofs.Common.{length}
use Rattle.job_runs.proofs.carry_rows.Given as goal

abbrev pub decreases-loop-fields : goal.decreases-loop-fields
decreases-loop-fields g l = length l.lines
