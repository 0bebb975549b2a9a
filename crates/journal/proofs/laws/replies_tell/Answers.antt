use Rattle.journal.proofs.Replies.{nothing_is_left, pull_is, unranked_told}
use Rattle.journal.proofs.laws.replies_tell.Goals as goal

pub returns-clause-pull : goal.returns-clause-pull
returns-clause-pull c = pull_is

pub returns-clause-nothing_left : goal.returns-clause-nothing_left
returns-clause-nothing_left c = nothing_is_left

pub returns-clause-unranked : goal.returns-clause-unranked
returns-clause-unranked c = unranked_told
