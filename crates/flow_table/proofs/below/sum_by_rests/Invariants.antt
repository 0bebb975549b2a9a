-- the pairs with the rests so far
use Rattle.std.proofs.Common.{◌≡◌, take}
use Rattle.flow_table.specs.Spots.{pairs}
use Rattle.flow_table.proofs.below.sum_by_rests.Given as goal

abbrev pub invariant-loop-rest : goal.invariant-loop-rest
invariant-loop-rest l = l.pairs ≡ pairs l.places (take l.rest-index l.rests)
