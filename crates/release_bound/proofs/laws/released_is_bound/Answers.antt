use Rattle.release_bound.proofs.ReleasedLaw.{total_law, value_law}
use Rattle.release_bound.proofs.laws.released_is_bound.Goals as goal

pub returns-clause-value : goal.returns-clause-value
returns-clause-value c = value_law

pub returns-clause-total : goal.returns-clause-total
returns-clause-total c = total_law
