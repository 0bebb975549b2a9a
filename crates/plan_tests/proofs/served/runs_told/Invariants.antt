-- the walk is over the runs, and entered a run at each place so far
use Rattle.std.proofs.Common.{◌≡◌}
use Rattle.plan_tests.proofs.served.runs_told.Given as goal

abbrev pub invariant-loop-place : goal.invariant-loop-place
invariant-loop-place g l = record {
  runs : l.walk.runs ≡ l.runs;
  place : l.walk.entered ≡ l._place;
}
