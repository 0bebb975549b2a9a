-- the marks so far stand behind the text
use Rattle.std.proofs.Common.{◌≡◌, ◌≤◌, ◌++◌, ◌*◌, ◌+◌, ◌-◌, ◌/◌}
use Rattle.std.specs.Int.{div_ceil}
use Rattle.std.specs.List.{flat_map, range_with_len}
use Rattle.picture.specs.Svg.{slot_tick}
use Rattle.picture.proofs.axes.push_slot_ticks.Given as goal

abbrev pub invariant-loop-turn : goal.invariant-loop-turn
invariant-loop-turn l = record {
  text_is : l.text.items ≡ l.fn.text.items ++ flat_map (λ k. slot_tick l.fn.span l.fn.end (k * l.step))
      (range_with_len (div_ceil l.fn.span.first l.step) (l.turn - div_ceil l.fn.span.first l.step));
  from : div_ceil l.fn.span.first l.step ≤ l.turn;
  upto : l.turn ≤ div_ceil l.fn.span.first l.step + (l.fn.span.last / l.step + 1 - div_ceil l.fn.span.first l.step);
}
