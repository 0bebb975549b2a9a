-- the marks so far stand behind the text
use Rattle.std.proofs.Common.{◌≡◌, ◌++◌, ◌*◌}
use Rattle.std.specs.List.{flat_map, range_with_len}
use Rattle.picture.specs.PoliciesSvg.{octave_tick}
use Rattle.picture.proofs.policies_bars.push_ticks.Given as goal

abbrev pub invariant-loop-turn : goal.invariant-loop-turn
invariant-loop-turn l = l.text.items ≡ l.fn.text.items ++ flat_map (λ k. octave_tick l.powers (k * l.step)) (range_with_len 0 l.turn)
