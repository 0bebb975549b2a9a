use Rattle.live_rounds.proofs.AskingLittle.{cut_few, done_few, full_met, spent_lacks}
use Rattle.live_rounds.proofs.laws.rounds_ask_little.Goals as goal

pub returns-clause-done : goal.returns-clause-done
returns-clause-done c = done_few

pub returns-clause-cut : goal.returns-clause-cut
returns-clause-cut c = cut_few

pub returns-clause-full : goal.returns-clause-full
returns-clause-full c = full_met

pub returns-clause-spent : goal.returns-clause-spent
returns-clause-spent c = spent_lacks
