-- the least places at the ports of the flows so far
use Rattle.std.proofs.Common.{◌≤◌, ◌<◌, ℕ, get_or, length, take}
use Rattle.std.specs.Prelude.{◌↔◌}
use Rattle.schedule_model.specs.Waiting.{ServesBy}
use Rattle.schedule_model.proofs.patience.note_places.Given as goal

abbrev pub invariant-loop-flow : goal.invariant-loop-flow
invariant-loop-flow l = (p m : ℕ) → p < length l.least → m < l.none → (get_or l.least p 0 ≤ m) ↔ ServesBy l.flows l.places l.side (take l.flow-index l.slot) p m
