use Rattle.replays.proofs.PublishedBounds.{bound_holds}
use Rattle.replays.proofs.laws.published_bounds_hold.Goals as goal

pub returns : goal.returns
returns c = bound_holds
