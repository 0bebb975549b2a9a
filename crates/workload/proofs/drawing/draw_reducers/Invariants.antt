-- the reducers so far are the first ones of the draws
use Rattle.std.proofs.Common.{◌≡◌, ◌*◌, map}
use Rattle.std.specs.List.{range_with_len}
use Rattle.workload.specs.Coflows.{reducer_from}
use Rattle.workload.specs.Draws.{after, next}
use Rattle.workload.proofs.drawing.draw_reducers.Given as goal

abbrev pub invariant-loop-reducer : goal.invariant-loop-reducer
invariant-loop-reducer l = record {
  items : l.reducers.items ≡ map (λ j. reducer_from (after (2 * j) (next l.fn.numbers.state))) (range_with_len 0 l._reducer);
  state : l.numbers.state ≡ after (2 * l._reducer) (next l.fn.numbers.state);
}
