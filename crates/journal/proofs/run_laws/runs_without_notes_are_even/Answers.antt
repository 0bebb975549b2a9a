use Rattle.journal.proofs.ScheduleTimes.{unnoted_slots}
use Rattle.journal.proofs.WholeRuns.{schedule_by_runs, unnoted_runs}
use Rattle.journal.proofs.run_laws.runs_without_notes_are_even.Goals as goal

pub returns-clause-whole : goal.returns-clause-whole
returns-clause-whole c = unnoted_runs

pub returns-clause-schedule : goal.returns-clause-schedule
returns-clause-schedule c = schedule_by_runs

pub returns-clause-run : goal.returns-clause-run
returns-clause-run c = unnoted_slots
