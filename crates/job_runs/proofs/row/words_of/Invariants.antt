use Rattle.std.proofs.Common.{length}
use Rattle.job_runs.proofs.row.words_of.Given as goal

abbrev pub decreases-loop-alloc : goal.decreases-loop-alloc
decreases-loop-alloc l = length l.fields.texts
