use Rattle.stats_cli.proofs.AnswerFacts.{answers_one}
use Rattle.stats_cli.proofs.laws.answer_is_one.Goals as goal

pub returns : goal.returns
returns c = answers_one
