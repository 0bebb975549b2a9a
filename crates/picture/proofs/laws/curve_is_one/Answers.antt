use Rattle.picture.proofs.CurveSteps.{one_curve}
use Rattle.picture.proofs.laws.curve_is_one.Goals as goal

pub returns : goal.returns
returns c = one_curve
