use Rattle.rankers.proofs.OrderPermutations.{IsSeen}
use Rattle.rankers.proofs.scoring.first_unfit.Given as goal

abbrev pub invariant-loop-place : goal.invariant-loop-place
invariant-loop-place l = IsSeen l.order l.place l.seen.items
