-- the rows so far stand behind the text
use Rattle.std.proofs.Common.{◌≡◌, ◌++◌}
use Rattle.std.specs.List.{flat_map, range_with_len}
use Rattle.picture.specs.Svg.{row_text}
use Rattle.picture.proofs.bars_text.push_rows.Given as goal

abbrev pub invariant-loop-port : goal.invariant-loop-port
invariant-loop-port l = l.text.items ≡ l.fn.text.items ++ flat_map (row_text l.picture) (range_with_len 0 l.port)
