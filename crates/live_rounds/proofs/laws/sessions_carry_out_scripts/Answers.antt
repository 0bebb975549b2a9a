use Rattle.live_rounds.proofs.ActsTold.{session_carries_out}
use Rattle.live_rounds.proofs.laws.sessions_carry_out_scripts.Goals as goal

pub returns : goal.returns
returns c = session_carries_out
