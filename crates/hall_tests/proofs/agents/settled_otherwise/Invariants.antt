use Rattle.std.proofs.Common.{◌≡◌}
use Rattle.hall_tests.proofs.agents.settled_otherwise.Given as goal

abbrev pub invariant-loop-port : goal.invariant-loop-port
invariant-loop-port l = l.poster.at ≡ l.board.id
