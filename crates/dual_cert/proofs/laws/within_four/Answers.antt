use Rattle.dual_cert.proofs.FourLaw.{four_law, four_bound_law}
use Rattle.dual_cert.proofs.laws.within_four.Goals as goal

pub returns-clause-dual_value : goal.returns-clause-dual_value
returns-clause-dual_value c = four_law

pub returns-clause-bound : goal.returns-clause-bound
returns-clause-bound c = four_bound_law
