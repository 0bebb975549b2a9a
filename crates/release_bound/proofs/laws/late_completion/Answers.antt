use Rattle.release_bound.proofs.LateLaw.{ends_late}
use Rattle.release_bound.proofs.laws.late_completion.Goals as goal

pub returns : goal.returns
returns c = ends_late
