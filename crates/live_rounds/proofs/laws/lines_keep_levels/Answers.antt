use Rattle.live_rounds.proofs.ActsTold.{lines_lie_between}
use Rattle.live_rounds.proofs.laws.lines_keep_levels.Goals as goal

pub returns : goal.returns
returns c = lines_lie_between
