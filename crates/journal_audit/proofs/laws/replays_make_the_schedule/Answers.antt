use Rattle.journal_audit.proofs.EntriesAnew.{none_anew, replayed_schedule}
use Rattle.journal_audit.proofs.laws.replays_make_the_schedule.Goals as goal

pub returns-clause-first : goal.returns-clause-first
returns-clause-first c = none_anew

pub returns-clause-schedule : goal.returns-clause-schedule
returns-clause-schedule c = replayed_schedule
