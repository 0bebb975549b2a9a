use Rattle.std.proofs.Common.{◌≡◌, length, ◌++◌, []}
use Rattle.indexmap.specs.IndexMap.{keys}
use Rattle.text_fields.specs.Checks.{first_fault}
use Rattle.text_fields.specs.Lines.{lines_of}
use Rattle.weights.specs.Checks.{lines_checks}
use Rattle.weights.proofs.LineLists.{pairs}
use Rattle.weights.proofs.lines.given_weights.Given as goal

abbrev pub invariant-loop-fields : goal.invariant-loop-fields
invariant-loop-fields l = (l.given.entries ++ pairs l.lines ≡ pairs (lines_of l.fn.bytes)) ×
    (first_fault (lines_checks l.known.keys (keys l.given) l.lines) ≡ first_fault (lines_checks l.known.keys [] (lines_of l.fn.bytes)))

abbrev pub decreases-loop-fields : goal.decreases-loop-fields
decreases-loop-fields l = length l.lines
