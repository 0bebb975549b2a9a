use Rattle.live_rounds.proofs.ActsTold.{round_lies_between}
use Rattle.live_rounds.proofs.laws.rounds_lie_between_levels.Goals as goal

pub returns : goal.returns
returns c = round_lies_between
