use Rattle.release_bound.proofs.ZeroLaw.{zero_y, zero_z}
use Rattle.release_bound.proofs.laws.zero_is_trivial.Goals as goal

pub returns-clause-y : goal.returns-clause-y
returns-clause-y c = zero_y

pub returns-clause-z : goal.returns-clause-z
returns-clause-z c = zero_z
