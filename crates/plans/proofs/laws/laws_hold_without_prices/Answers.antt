use Rattle.plans.proofs.NoPriceFacts.{second_is_short, without_prices_four}
use Rattle.plans.proofs.laws.laws_hold_without_prices.Goals as goal

pub returns-clause-four : goal.returns-clause-four
returns-clause-four c = without_prices_four

pub returns-clause-short : goal.returns-clause-short
returns-clause-short c = second_is_short
