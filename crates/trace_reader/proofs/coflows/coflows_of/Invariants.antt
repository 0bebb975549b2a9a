use Rattle.std.proofs.Common.{length}
use Rattle.trace_reader.proofs.CoflowLists.{SoFar}
use Rattle.trace_reader.proofs.coflows.coflows_of.Given as goal

-- The lines up to here passed.
abbrev pub invariant-loop-fields : goal.invariant-loop-fields
invariant-loop-fields l = SoFar l.ports l.count l.fn.lines l.lines l.ids.keys l.coflows.items

abbrev pub decreases-loop-fields : goal.decreases-loop-fields
decreases-loop-fields l = length l.lines
