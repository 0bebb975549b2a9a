-- the durations so far
use Rattle.std.proofs.Common.{◌≡◌, map, take}
use Rattle.coflow_stats.specs.Groups.{duration}
use Rattle.coflow_stats.proofs.stats.summary_of_all.Given as goal

abbrev pub invariant-loop-coflow : goal.invariant-loop-coflow
invariant-loop-coflow l = l.durations.items ≡ map duration (take l.coflow-index l.coflows)
