-- the durations so far
use Rattle.std.proofs.Common.{◌≡◌, take}
use Rattle.coflow_stats.specs.Groups.{durations_of}
use Rattle.coflow_stats.proofs.groups.durations_of.Given as goal

abbrev pub invariant-loop-coflow : goal.invariant-loop-coflow
invariant-loop-coflow l = l.durations.items ≡ durations_of l.group l.unit (take l.coflow-index l.coflows)
