use Rattle.std.proofs.Common.{◌≡◌}
use Rattle.turnstile.proofs.steps.wake_near.Given as goal

abbrev pub invariant-loop-ahead : goal.invariant-loop-ahead
invariant-loop-ahead g l = (l.place.table_id ≡ l.initial.place.table_id) × (l.place.id ≡ l.initial.place.id) × (l.place.me ≡ l.initial.place.me)
