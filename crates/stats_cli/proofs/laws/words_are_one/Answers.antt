use Rattle.stats_cli.proofs.WordFacts.{one_words}
use Rattle.stats_cli.proofs.laws.words_are_one.Goals as goal

pub returns : goal.returns
returns c = one_words
