use Rattle.online_runs.proofs.Right.{epoch_bound}
use Rattle.online_runs.proofs.laws.publishings_have_bounds.Goals as goal

pub returns : goal.returns
returns c = epoch_bound
