use Rattle.journal.proofs.EntryTells.{entry_tells}
use Rattle.journal.proofs.laws.entries_tell.Goals as goal

pub returns : goal.returns
returns c = entry_tells
