-- the ids so far stand at the front of the bytes
use Rattle.std.proofs.Common.{length}
use Rattle.live_text.proofs.LineReading.{IdsSoFar}
use Rattle.live_text.proofs.lines.ids_of.Given as goal

abbrev pub invariant-loop-rest : goal.invariant-loop-rest
invariant-loop-rest l = IdsSoFar l.bytes l.rest l.ids.items

abbrev pub decreases-loop-rest : goal.decreases-loop-rest
decreases-loop-rest l = length l.rest
