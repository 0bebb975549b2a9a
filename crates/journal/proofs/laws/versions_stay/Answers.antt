use Rattle.journal.proofs.Growth.{version_append, version_counted, order_kept, rank_kept}
use Rattle.journal.proofs.laws.versions_stay.Goals as goal

pub returns-clause-count : goal.returns-clause-count
returns-clause-count c = version_append

pub returns-clause-newest : goal.returns-clause-newest
returns-clause-newest c = version_counted

pub returns-clause-order : goal.returns-clause-order
returns-clause-order c = order_kept

pub returns-clause-rank : goal.returns-clause-rank
returns-clause-rank c = rank_kept
