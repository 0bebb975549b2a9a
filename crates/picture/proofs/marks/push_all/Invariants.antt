-- what stands on the rows so far stands behind the text
use Rattle.std.proofs.Common.{◌≡◌, ◌++◌}
use Rattle.std.specs.List.{flat_map, range_with_len}
use Rattle.picture.specs.Marks.{row_marks}
use Rattle.picture.proofs.marks.push_all.Given as goal

abbrev pub invariant-loop-port : goal.invariant-loop-port
invariant-loop-port l = l.text.items ≡ l.fn.text.items ++ flat_map (row_marks l.picture) (range_with_len 0 l.port)
