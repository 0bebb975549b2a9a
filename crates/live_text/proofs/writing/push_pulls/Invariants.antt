-- the lines so far stand behind the text
use Rattle.std.proofs.Common.{◌≡◌, ◌++◌, map, take}
use Rattle.coflow_units.specs.Text.{text_of}
use Rattle.live_text.specs.Text.{pull_line}
use Rattle.live_text.proofs.writing.push_pulls.Given as goal

abbrev pub invariant-loop-pull : goal.invariant-loop-pull
invariant-loop-pull l = l.text.items ≡ l.fn.text.items ++ text_of (map pull_line (take l.pull-index l.pulls))
