use Rattle.journal.proofs.WholeWork.{line_is_newest, line_is_order, whole_is_left}
use Rattle.journal.proofs.laws.whole_work_is_left.Goals as goal

pub returns-clause-order : goal.returns-clause-order
returns-clause-order c = line_is_order

pub returns-clause-newest : goal.returns-clause-newest
returns-clause-newest c = line_is_newest

pub returns-clause-instance : goal.returns-clause-instance
returns-clause-instance c = whole_is_left
