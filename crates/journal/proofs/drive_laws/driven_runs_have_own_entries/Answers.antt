use Rattle.journal.proofs.OwnEntries.{own_are, own_close, own_notes, own_whole}
use Rattle.journal.proofs.drive_laws.driven_runs_have_own_entries.Goals as goal

pub returns-clause-entries : goal.returns-clause-entries
returns-clause-entries c = own_are

pub returns-clause-notes : goal.returns-clause-notes
returns-clause-notes c = own_notes

pub returns-clause-whole : goal.returns-clause-whole
returns-clause-whole c = own_whole

pub returns-clause-close : goal.returns-clause-close
returns-clause-close c = own_close
