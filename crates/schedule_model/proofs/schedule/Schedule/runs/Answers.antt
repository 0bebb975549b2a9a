use Rattle.std.proofs.Common.{subst}
use Rattle.std.specs.Prelude.{All}
use Rattle.std.specs.List.Sorted.{IsStrictlyIncreasing}
use Rattle.coflow_units.specs.Schedule.{IsRuns}
use Rattle.schedule_model.specs.RunList.{pairs_of}
use Rattle.schedule_model.proofs.RunPushes.{each_slot, runs_are}
use Rattle.schedule_model.proofs.schedule.Schedule.runs.Goals as goal

pub returns-clause-runs : goal.returns-clause-runs
returns-clause-runs c = subst (λ s. IsRuns s (pairs_of c.kept.result.now)) c.kept.ensures.slots (runs_are c.kept.result.now c.kept.ensures.kept)

pub returns-clause-ascending : goal.returns-clause-ascending
returns-clause-ascending c = subst (All IsStrictlyIncreasing) c.kept.ensures.slots (each_slot IsStrictlyIncreasing c.kept.result.now c.kept.ensures.kept.ascending)
