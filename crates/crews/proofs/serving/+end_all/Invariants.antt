use Rattle.std.proofs.Common.{length}
use Rattle.crews.proofs.serving.+end_all.Given as goal

abbrev pub decreases-end_all : goal.decreases-end_all
decreases-end_all g l = length l.stations.now.items
