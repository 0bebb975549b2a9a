use Rattle.std.proofs.Common.{◌≡◌, length, ◌++◌, []}
use Rattle.orders.specs.Checks.{lines_checks}
use Rattle.orders.proofs.LineLists.{numbers_of}
use Rattle.text_fields.specs.Checks.{first_fault}
use Rattle.text_fields.specs.Lines.{lines_of}
use Rattle.orders.proofs.lines.numbers_in_lines.Given as goal

abbrev pub invariant-loop-fields : goal.invariant-loop-fields
invariant-loop-fields l = (l.order.items ++ numbers_of l.coflows l.lines ≡ numbers_of l.coflows (lines_of l.fn.bytes)) ×
    (first_fault (lines_checks l.coflows l.earlier.keys l.lines) ≡ first_fault (lines_checks l.coflows [] (lines_of l.fn.bytes)))

abbrev pub decreases-loop-fields : goal.decreases-loop-fields
decreases-loop-fields l = length l.lines
