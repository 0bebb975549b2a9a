-- the places so far
use Rattle.std.proofs.Common.{◌≡◌}
use Rattle.std.specs.Prelude.{◌==◌, filter, not, slice_index}
use Rattle.std.specs.List.{range_with_len}
use Rattle.picture_cli.proofs.run_drawing.nonzero_in.Given as goal

abbrev pub invariant-loop-place : goal.invariant-loop-place
invariant-loop-place l = l.places.items ≡ filter (λ c. not (slice_index l.slots c == 0)) (range_with_len 0 l.place)
