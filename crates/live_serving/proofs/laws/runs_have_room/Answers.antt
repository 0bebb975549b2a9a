use Rattle.live_serving.proofs.Counted.{has_room}
use Rattle.live_serving.proofs.laws.runs_have_room.Goals as goal

pub returns : goal.returns
returns c = has_room
