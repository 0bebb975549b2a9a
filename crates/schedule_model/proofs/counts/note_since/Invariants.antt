-- the flows so far have the slot
use Rattle.std.proofs.Common.{◌≡◌, ℕ, cond, get_or, take}
use Rattle.coflow_units.specs.Schedule.{holds}
use Rattle.schedule_model.proofs.counts.note_since.Given as goal

abbrev pub invariant-loop-flow : goal.invariant-loop-flow
invariant-loop-flow l = (f : ℕ) → get_or l.since f 0 ≡ cond (holds (take l.flow-index l.flows) f) l.slot (get_or l.fn.since f 0)
