-- the lines so far stand behind the text
use Rattle.std.proofs.Common.{◌≡◌, ◌++◌, map}
use Rattle.std.specs.List.{range_with_len}
use Rattle.coflow_units.specs.Text.{text_of}
use Rattle.online_text.specs.Text.{release_line_at}
use Rattle.online_text.proofs.writing.push_certificate.Given as goal

abbrev pub invariant-loop-place : goal.invariant-loop-place
invariant-loop-place l = l.text.items ≡ l.fn.text.items ++ text_of (map (release_line_at l.places) (range_with_len 0 l.place))
