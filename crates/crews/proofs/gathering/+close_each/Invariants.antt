use Rattle.std.proofs.Common.{length}
use Rattle.crews.proofs.gathering.+close_each.Given as goal

abbrev pub decreases-close_each : goal.decreases-close_each
decreases-close_each g l = length l.stations.now.items
