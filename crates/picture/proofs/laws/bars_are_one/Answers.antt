use Rattle.picture.proofs.RowLaws.{one_picture}
use Rattle.picture.proofs.laws.bars_are_one.Goals as goal

pub returns : goal.returns
returns c = one_picture
