use Rattle.journal.proofs.TallySlots.{schedule_tallied, wire_tallied}
use Rattle.journal.proofs.run_laws.tallies_tell_schedules.Goals as goal

pub returns-clause-schedule : goal.returns-clause-schedule
returns-clause-schedule c = schedule_tallied

pub returns-clause-wire : goal.returns-clause-wire
returns-clause-wire c = wire_tallied
