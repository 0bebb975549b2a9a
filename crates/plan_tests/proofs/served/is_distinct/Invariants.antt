-- no coflow stands twice so far
use Rattle.std.proofs.Common.{take}
use Rattle.coflow_units.specs.Flows.{IsDistinct}
use Rattle.plan_tests.proofs.served.is_distinct.Given as goal

abbrev pub invariant-loop-place : goal.invariant-loop-place
invariant-loop-place l = IsDistinct (take l.place l.order)
