use Rattle.live_serving.proofs.RoundsOn.{none_done, round_done}
use Rattle.live_serving.proofs.laws.rounds_go_on.Goals as goal

pub returns-clause-first : goal.returns-clause-first
returns-clause-first c = none_done

pub returns-clause-round : goal.returns-clause-round
returns-clause-round c = round_done
