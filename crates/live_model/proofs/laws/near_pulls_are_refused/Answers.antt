use Rattle.live_model.proofs.NearPulls.{near_line, near_round}
use Rattle.live_model.proofs.laws.near_pulls_are_refused.Goals as goal

pub returns-clause-near_line : goal.returns-clause-near_line
returns-clause-near_line c = near_line

pub returns-clause-near_round : goal.returns-clause-near_round
returns-clause-near_round c = near_round
