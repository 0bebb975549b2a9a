-- the rests so far
use Rattle.std.proofs.Common.{◌≡◌, length, map, take}
use Rattle.flow_table.proofs.MadeSpots.{rest_of}
use Rattle.flow_table.proofs.spots.reducer_rests.Given as goal

abbrev pub invariant-loop-reducer : goal.invariant-loop-reducer
invariant-loop-reducer l = l.spots.items ≡ map (rest_of l.unit.megabytes (length l.line.mappers)) (take l.reducer-index l.line.reducers)
