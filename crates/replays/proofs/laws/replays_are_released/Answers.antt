use Rattle.replays.proofs.ReleasedReplays.{replay_is_released}
use Rattle.replays.proofs.laws.replays_are_released.Goals as goal

pub returns : goal.returns
returns c = replay_is_released
