-- the locations so far are the first ones of the draws
use Rattle.std.proofs.Common.{◌≡◌, map}
use Rattle.std.specs.List.{range_with_len}
use Rattle.workload.specs.Draws.{after, draw, next}
use Rattle.workload.proofs.drawing.draw_mappers.Given as goal

abbrev pub invariant-loop-mapper : goal.invariant-loop-mapper
invariant-loop-mapper l = record {
  items : l.mappers.items ≡ map (λ j. draw 150 (after j (next l.fn.numbers.state))) (range_with_len 0 l._mapper);
  state : l.numbers.state ≡ after l._mapper (next l.fn.numbers.state);
}
