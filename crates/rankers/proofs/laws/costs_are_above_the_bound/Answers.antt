use Rattle.rankers.proofs.RowFacts.{costs_above}
use Rattle.rankers.proofs.laws.costs_are_above_the_bound.Goals as goal

pub returns : goal.returns
returns c = costs_above
