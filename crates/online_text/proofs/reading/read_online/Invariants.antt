-- what was read so far is the front of the bytes
use Rattle.std.proofs.Common.{length}
use Rattle.online_text.proofs.ReadingSteps.{ReadSoFar}
use Rattle.online_text.proofs.reading.read_online.Given as goal

abbrev pub invariant-loop-rest : goal.invariant-loop-rest
invariant-loop-rest l = ReadSoFar l.bytes l.rest l.draft l.line_number

abbrev pub decreases-loop-rest : goal.decreases-loop-rest
decreases-loop-rest l = length l.rest
