use Rattle.journal.proofs.Schedules.{schedule_length}
use Rattle.journal.proofs.ScheduleTimes.{slots_clear, times_is_sent}
use Rattle.journal.proofs.run_laws.schedule_tells_sent.Goals as goal

pub returns-clause-length : goal.returns-clause-length
returns-clause-length c = schedule_length

pub returns-clause-clear : goal.returns-clause-clear
returns-clause-clear c = slots_clear

pub returns-clause-times : goal.returns-clause-times
returns-clause-times c = times_is_sent
