use Rattle.rankers.proofs.SecondRounds.{round_cost, round_valid}
use Rattle.rankers.proofs.laws.second_round_is_compared.Goals as goal

pub returns-clause-valid : goal.returns-clause-valid
returns-clause-valid c = round_valid

pub returns-clause-cost : goal.returns-clause-cost
returns-clause-cost c = round_cost
