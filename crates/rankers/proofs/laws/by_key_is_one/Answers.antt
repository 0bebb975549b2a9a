use Rattle.rankers.proofs.KeyOrders.{by_key_is, by_key_one}
use Rattle.rankers.proofs.laws.by_key_is_one.Goals as goal

pub returns-clause-sorted : goal.returns-clause-sorted
returns-clause-sorted c = by_key_is

pub returns-clause-one : goal.returns-clause-one
returns-clause-one c = by_key_one
