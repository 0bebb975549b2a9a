use Rattle.picture.proofs.RunSteps.{ticks_in_order}
use Rattle.picture.proofs.laws.ticks_ascend.Goals as goal

pub returns : goal.returns
returns c = ticks_in_order
