use Rattle.rankers.proofs.RatioOrders.{goes_by_ratio}
use Rattle.rankers.proofs.laws.wsebf_goes_by_ratio.Goals as goal

pub returns : goal.returns
returns c = goes_by_ratio
