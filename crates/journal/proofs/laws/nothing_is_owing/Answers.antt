use Rattle.journal.proofs.Replies.{nothing_owing}
use Rattle.journal.proofs.laws.nothing_is_owing.Goals as goal

pub returns : goal.returns
returns c = nothing_owing
