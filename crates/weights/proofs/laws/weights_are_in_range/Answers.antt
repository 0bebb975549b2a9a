use Rattle.weights.proofs.Range.{weights_in_range}
use Rattle.weights.proofs.laws.weights_are_in_range.Goals as goal

pub returns : goal.returns
returns c = weights_in_range
