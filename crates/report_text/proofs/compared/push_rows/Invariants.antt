-- the lines so far stand behind the text
use Rattle.std.proofs.Common.{◌≡◌, ◌++◌, take, map}
use Rattle.report_text.specs.Compared.{row_line}
use Rattle.coflow_units.specs.Text.{text_of}
use Rattle.report_text.proofs.compared.push_rows.Given as goal

abbrev pub invariant-loop-row : goal.invariant-loop-row
invariant-loop-row l = l.text.items ≡ l.fn.text.items ++ text_of (map row_line (take l.row-index l.rows))
