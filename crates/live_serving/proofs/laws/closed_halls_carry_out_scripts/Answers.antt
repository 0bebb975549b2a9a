use Rattle.live_serving.proofs.ClosedTold.{carries_out}
use Rattle.live_serving.proofs.laws.closed_halls_carry_out_scripts.Goals as goal

pub returns : goal.returns
returns c = carries_out
