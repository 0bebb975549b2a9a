use Rattle.journal.proofs.Driving.{driven_even}
use Rattle.journal.proofs.ServingRuns.{ends_a_flow, serves_on}
use Rattle.journal.proofs.drive_laws.whole_runs_serve.Goals as goal

pub returns-clause-slots : goal.returns-clause-slots
returns-clause-slots c = driven_even

pub returns-clause-ends : goal.returns-clause-ends
returns-clause-ends c = ends_a_flow

pub returns-clause-serves : goal.returns-clause-serves
returns-clause-serves c = serves_on
