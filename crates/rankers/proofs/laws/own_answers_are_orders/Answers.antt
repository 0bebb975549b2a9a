use Rattle.rankers.proofs.OwnOrders.{own_fits}
use Rattle.rankers.proofs.laws.own_answers_are_orders.Goals as goal

pub returns : goal.returns
returns c = own_fits
