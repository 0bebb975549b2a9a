-- the order has each coflow so far
use Rattle.std.proofs.Common.{ℕ, ◌<◌, Contains}
use Rattle.plan_tests.proofs.served.has_all_below.Given as goal

abbrev pub invariant-loop-coflow : goal.invariant-loop-coflow
invariant-loop-coflow l = (c : ℕ) → c < l.coflow-counter → Contains l.order c
