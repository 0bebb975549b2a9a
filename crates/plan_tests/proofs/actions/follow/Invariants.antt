-- the run is still one of two coflows
use Rattle.std.proofs.Common.{◌≡◌, length}
use Rattle.plan_tests.proofs.actions.follow.Given as goal

abbrev pub invariant-loop-row : goal.invariant-loop-row
invariant-loop-row g l = length l.epochs.arrivals ≡ 2
