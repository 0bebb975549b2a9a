use Rattle.std.proofs.Common.{refl}
use Rattle.release_bound.proofs.laws.late_row_has_total.Goals as goal

pub returns-clause-known : goal.returns-clause-known
returns-clause-known c = refl

pub returns-clause-unknown : goal.returns-clause-unknown
returns-clause-unknown c = refl

pub returns-clause-both : goal.returns-clause-both
returns-clause-both c = refl
