-- the lines so far stand behind the text
use Rattle.std.proofs.Common.{◌≡◌, ◌++◌, take}
use Rattle.coflow_units.specs.Text.{text_of}
use Rattle.live_text.specs.Text.{entry_line, numbered}
use Rattle.live_text.proofs.writing.push_entries.Given as goal

abbrev pub invariant-loop-index : goal.invariant-loop-index
invariant-loop-index l = l.text.items ≡ l.fn.text.items ++ text_of (numbered entry_line 1 (take l.index l.entries))
