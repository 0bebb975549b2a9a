use Rattle.journal.proofs.Driving.{driven_goes_on}
use Rattle.journal.proofs.ServingRuns.{as_long}
use Rattle.journal.proofs.drive_laws.driven_runs_go_on.Goals as goal

pub returns-clause-run : goal.returns-clause-run
returns-clause-run c = driven_goes_on

pub returns-clause-as_long : goal.returns-clause-as_long
returns-clause-as_long c = as_long
