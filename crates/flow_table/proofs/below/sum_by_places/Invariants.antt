-- the pairs with the places so far
use Rattle.std.proofs.Common.{◌≡◌, take}
use Rattle.std.specs.Prelude.{sum_by}
use Rattle.flow_table.proofs.PairCounts.{rests_above}
use Rattle.flow_table.proofs.below.sum_by_places.Given as goal

abbrev pub invariant-loop-place : goal.invariant-loop-place
invariant-loop-place l = l.pairs ≡ sum_by (rests_above l.rests) (take l.place-index l.places)
