-- the master's opening stays
use Rattle.std.proofs.Common.{◌≡◌}
use Rattle.run_tests.proofs.masters.ask_all.Given as goal

abbrev pub invariant-loop-who : goal.invariant-loop-who
invariant-loop-who g l = l.master.opening ≡ l.fn.master.opening
