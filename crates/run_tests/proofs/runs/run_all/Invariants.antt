-- the runner may run again
use Rattle.slot_runner.specs.Models.{MayRun}
use Rattle.run_tests.proofs.runs.run_all.Given as goal

abbrev pub invariant-loop-most : goal.invariant-loop-most
invariant-loop-most g l = MayRun l.hall l.runner
