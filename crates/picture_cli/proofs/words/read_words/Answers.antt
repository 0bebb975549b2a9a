use Rattle.std.proofs.Common.{sym}
use Rattle.picture_cli.proofs.WordFacts.{said_same}
use Rattle.picture_cli.proofs.words.read_words.Goals as goal

pub returns-clause-usage : goal.returns-clause-usage
returns-clause-usage c = λ usage said is. c.in-None.ensures.none said (said_same _ _ said (λ id. sym (c.in_ok-matches.ensures.found.value id)) is.says)
