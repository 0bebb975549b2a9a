-- the squares so far stand behind the text
use Rattle.std.proofs.Common.{◌≡◌, ◌++◌}
use Rattle.std.specs.List.{flat_map, range_with_len}
use Rattle.picture.specs.Svg.{swatch_text}
use Rattle.picture.proofs.legend.push_swatches.Given as goal

abbrev pub invariant-loop-k : goal.invariant-loop-k
invariant-loop-k l = l.text.items ≡ l.fn.text.items ++ flat_map (swatch_text l.picture) (range_with_len 0 l.k)
