use Rattle.command_words.proofs.OneMeaning.{words_one}
use Rattle.command_words.proofs.laws.words_are_one.Goals as goal

pub returns : goal.returns
returns c = words_one
