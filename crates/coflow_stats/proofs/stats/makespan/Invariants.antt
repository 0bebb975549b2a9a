-- the slots of the runs so far
use Rattle.std.proofs.Common.{◌≡◌, length, take}
use Rattle.schedule_model.specs.RunList.{slots_in}
use Rattle.coflow_stats.proofs.stats.makespan.Given as goal

abbrev pub invariant-loop-place : goal.invariant-loop-place
invariant-loop-place l = l.slots ≡ length (slots_in (take l.place l.runs))
