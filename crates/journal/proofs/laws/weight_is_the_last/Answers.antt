use Rattle.journal.proofs.LastWeight.{last_given, never_given}
use Rattle.journal.proofs.laws.weight_is_the_last.Goals as goal

pub returns-clause-given : goal.returns-clause-given
returns-clause-given c = last_given

pub returns-clause-opening : goal.returns-clause-opening
returns-clause-opening c = never_given
