use Rattle.journal.proofs.Legal.{one_journal}
use Rattle.journal.proofs.laws.replies_are_determined.Goals as goal

pub returns : goal.returns
returns c = one_journal
