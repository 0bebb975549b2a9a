use Rattle.std.proofs.Common.{subst}
use Rattle.coflow_units.specs.Schedule.{IsRuns}
use Rattle.schedule_model.specs.RunList.{pairs_of}
use Rattle.schedule_model.proofs.RunPushes.{runs_are}
use Rattle.schedule_model.proofs.schedule.Schedule.into_runs.Goals as goal

pub returns : goal.returns
returns c = record { runs = subst (λ s. IsRuns s (pairs_of c.self.inside.runs)) c.self.view_is (runs_are c.self.inside.runs c.self.invariant) }
