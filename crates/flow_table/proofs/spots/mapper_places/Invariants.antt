-- the places so far
use Rattle.std.proofs.Common.{◌≡◌, map}
use Rattle.std.specs.List.{range_with_len}
use Rattle.flow_table.proofs.MadeSpots.{place_of}
use Rattle.flow_table.proofs.spots.mapper_places.Given as goal

abbrev pub invariant-loop-place : goal.invariant-loop-place
invariant-loop-place l = l.spots.items ≡ map (place_of l.line.mappers) (range_with_len 0 l.place)
