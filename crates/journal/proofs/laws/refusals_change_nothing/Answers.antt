use Rattle.journal.proofs.Growth.{journal_stays, state_stays}
use Rattle.journal.proofs.laws.refusals_change_nothing.Goals as goal

pub returns-clause-refused : goal.returns-clause-refused
returns-clause-refused c = state_stays

pub returns-clause-full : goal.returns-clause-full
returns-clause-full c = journal_stays
