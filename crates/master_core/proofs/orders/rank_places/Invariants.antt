use Rattle.std.proofs.Common.{◌≡◌, length}
use Rattle.master_core.specs.Published.{ranked}
use Rattle.master_core.proofs.RankSteps.{RanksSoFar}
use Rattle.master_core.proofs.orders.rank_places.Given as goal

abbrev pub invariant-loop-number : goal.invariant-loop-number
invariant-loop-number l = record { len : length l.ranks ≡ length l.fn.ranks; so_far : RanksSoFar (ranked l.places) l.ranks l.number }
