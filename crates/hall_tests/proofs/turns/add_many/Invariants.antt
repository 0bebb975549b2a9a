use Rattle.std.proofs.Common.{◌≡◌, false}
use Rattle.hall_tests.proofs.turns.add_many.Given as goal

abbrev pub invariant-loop-number : goal.invariant-loop-number
invariant-loop-number g l = (l.seat.table ≡ l.initial.seat.table) × (l.seat.in_turn ≡ false) × (l.seat.number ≡ l.initial.seat.number)
