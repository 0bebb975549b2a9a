-- what was read so far is the front of the bytes
use Rattle.std.proofs.Common.{length}
use Rattle.report_text.proofs.WholeLines.{IsRead}
use Rattle.live_text.specs.Draft.{IsDraft, draft_lines}
use Rattle.live_text.proofs.ReadingSteps.{IsLiveText}
use Rattle.live_text.proofs.reading.read_live.Given as goal

abbrev pub invariant-loop-rest : goal.invariant-loop-rest
invariant-loop-rest l = IsDraft l.draft × IsRead IsLiveText l.bytes l.rest (draft_lines l.draft) l.line_number

abbrev pub decreases-loop-rest : goal.decreases-loop-rest
decreases-loop-rest l = length l.rest
