use Rattle.std.proofs.Common.{◌≡◌}
use Rattle.hall_tests.proofs.ranks.pulls_agree.Given as goal

abbrev pub invariant-loop-turn : goal.invariant-loop-turn
invariant-loop-turn l = l.seat.table ≡ l.initial.seat.table
