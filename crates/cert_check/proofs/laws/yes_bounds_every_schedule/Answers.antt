use Rattle.std.proofs.Common.{arith}
use Rattle.dual_cert.proofs.DualLaw.{bound_law}
use Rattle.cert_check.proofs.laws.yes_bounds_every_schedule.Goals as goal

pub returns-clause-bound : goal.returns-clause-bound
returns-clause-bound c i ids r slots sound valid = omega (arith, sound.bound_is_low, bound_law i _ slots sound.certificate sound.feasible valid)

pub returns-clause-four : goal.returns-clause-four
returns-clause-four c i ids r slots sound valid = omega (arith, sound.bound_is_low, sound.within_four, bound_law i _ slots sound.certificate sound.feasible valid)
