use Rattle.replays.proofs.GrantedSlots.{replay_grants}
use Rattle.replays.proofs.laws.replays_serve_grants.Goals as goal

pub returns : goal.returns
returns c = replay_grants
