-- the lines so far stand behind the text
use Rattle.std.proofs.Common.{◌≡◌, ◌++◌, take, map}
use Rattle.replays.specs.Text.{row_line}
use Rattle.coflow_units.specs.Text.{text_of}
use Rattle.replays.proofs.writing.push_rows.Given as goal

abbrev pub invariant-loop-row : goal.invariant-loop-row
invariant-loop-row l = l.text.items ≡ l.fn.text.items ++ text_of (map row_line (take l.row-index l.rows))
