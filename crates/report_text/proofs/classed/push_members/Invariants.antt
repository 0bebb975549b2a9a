-- the lines so far stand behind the text
use Rattle.std.proofs.Common.{◌≡◌, ◌++◌, take, map}
use Rattle.report_text.specs.Classed.{member_line}
use Rattle.coflow_units.specs.Text.{text_of}
use Rattle.report_text.proofs.classed.push_members.Given as goal

abbrev pub invariant-loop-member : goal.invariant-loop-member
invariant-loop-member l = l.text.items ≡ l.fn.text.items ++ text_of (map member_line (take l.member-index l.members))
