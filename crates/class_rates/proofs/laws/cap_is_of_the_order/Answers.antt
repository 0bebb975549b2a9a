use Rattle.class_rates.proofs.CapSame.{cap_folded, cap_same}
use Rattle.class_rates.proofs.laws.cap_is_of_the_order.Goals as goal

pub returns-clause-classes : goal.returns-clause-classes
returns-clause-classes c = cap_same

pub returns-clause-folded : goal.returns-clause-folded
returns-clause-folded c = cap_folded
