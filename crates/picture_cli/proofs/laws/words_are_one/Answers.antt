use Rattle.picture_cli.proofs.WordFacts.{one_words}
use Rattle.picture_cli.proofs.laws.words_are_one.Goals as goal

pub returns : goal.returns
returns c = one_words
