use Rattle.std.proofs.Common.{length}
use Rattle.crews.proofs.serving.+serve_parts.Given as goal

abbrev pub decreases-serve_parts : goal.decreases-serve_parts
decreases-serve_parts g l = length l.stations.now.items
