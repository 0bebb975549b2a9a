use Rattle.dual_cert.proofs.DualLaw.{dual_law, bound_law}
use Rattle.dual_cert.proofs.laws.dual_is_bound.Goals as goal

pub returns-clause-dual_value : goal.returns-clause-dual_value
returns-clause-dual_value c = dual_law

pub returns-clause-bound : goal.returns-clause-bound
returns-clause-bound c = bound_law
