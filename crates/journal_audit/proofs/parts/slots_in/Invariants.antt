-- the slots so far
use Rattle.std.proofs.Common.{◌≡◌, length, take}
use Rattle.schedule_model.specs.RunList.{slots_in}
use Rattle.journal_audit.proofs.parts.slots_in.Given as goal

abbrev pub invariant-loop-place : goal.invariant-loop-place
invariant-loop-place l = l.slots ≡ length (slots_in (take l.place l.runs))
