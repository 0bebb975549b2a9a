use Rattle.journal.proofs.ClosedSteps.{closed_push, wire_push}
use Rattle.journal.proofs.Schedules.{schedule_push}
use Rattle.journal.proofs.run_laws.runs_go_on.Goals as goal

pub returns-clause-closed : goal.returns-clause-closed
returns-clause-closed c = closed_push

pub returns-clause-wire : goal.returns-clause-wire
returns-clause-wire c = wire_push

pub returns-clause-schedule : goal.returns-clause-schedule
returns-clause-schedule c = schedule_push
