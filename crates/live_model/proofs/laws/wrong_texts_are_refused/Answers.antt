use Rattle.live_model.proofs.DamagedTexts.{wrong_order, wrong_reply, wrong_runs}
use Rattle.live_model.proofs.laws.wrong_texts_are_refused.Goals as goal

pub returns-clause-wrong_reply : goal.returns-clause-wrong_reply
returns-clause-wrong_reply c = wrong_reply

pub returns-clause-wrong_order : goal.returns-clause-wrong_order
returns-clause-wrong_order c = wrong_order

pub returns-clause-wrong_runs : goal.returns-clause-wrong_runs
returns-clause-wrong_runs c = wrong_runs
