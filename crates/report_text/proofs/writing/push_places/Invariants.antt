-- the lines so far stand behind the text
use Rattle.std.proofs.Common.{◌≡◌, ◌++◌, map}
use Rattle.std.specs.List.{range_with_len}
use Rattle.report_text.specs.Text.{place_line_at}
use Rattle.coflow_units.specs.Text.{text_of}
use Rattle.report_text.proofs.writing.push_places.Given as goal

abbrev pub invariant-loop-place : goal.invariant-loop-place
invariant-loop-place l = l.text.items ≡ l.fn.text.items ++ text_of (map (place_line_at l.report) (range_with_len 0 l.place))
