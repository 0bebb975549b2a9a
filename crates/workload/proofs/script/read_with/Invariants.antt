use Rattle.std.proofs.Common.{length}
use Rattle.text_fields.specs.Lines.{lines_of}
use Rattle.workload.proofs.ScriptSteps.{SoFar}
use Rattle.workload.proofs.script.read_with.Given as goal

-- The lines up to here stand in the draft.
abbrev pub invariant-loop-fields : goal.invariant-loop-fields
invariant-loop-fields l = SoFar l.coflows (lines_of l.fn.bytes) l.lines l.count l.draft.clients l.draft.rounds.items l.draft.lines.items

abbrev pub decreases-loop-fields : goal.decreases-loop-fields
decreases-loop-fields l = length l.lines
