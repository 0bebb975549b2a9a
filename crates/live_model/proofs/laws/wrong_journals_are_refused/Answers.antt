use Rattle.live_model.proofs.Journals.{other_limit, strange_entry, wrong_answer}
use Rattle.live_model.proofs.laws.wrong_journals_are_refused.Goals as goal

pub returns-clause-other_limit : goal.returns-clause-other_limit
returns-clause-other_limit c = other_limit

pub returns-clause-wrong_answer : goal.returns-clause-wrong_answer
returns-clause-wrong_answer c = wrong_answer

pub returns-clause-strange_entry : goal.returns-clause-strange_entry
returns-clause-strange_entry c = strange_entry
