-- the lines so far stand behind the text
use Rattle.std.proofs.Common.{◌≡◌, ◌++◌, map, take}
use Rattle.coflow_units.specs.Text.{text_of}
use Rattle.online_text.specs.Text.{done_line}
use Rattle.online_text.proofs.writing.push_done.Given as goal

abbrev pub invariant-loop-coflow : goal.invariant-loop-coflow
invariant-loop-coflow l = l.text.items ≡ l.fn.text.items ++ text_of (map done_line (take l.coflow-index l.done))
