use Rattle.picture.proofs.ColourFacts.{ink_apart}
use Rattle.picture.proofs.laws.words_can_be_read.Goals as goal

pub returns : goal.returns
returns c = ink_apart
