use Rattle.std.proofs.Common.{◌-◌, ◌≤◌}
use Rattle.dual_cert.proofs.BudgetSteps.{PaidAtSoFar}
use Rattle.dual_cert.proofs.budgets.pay_at.Given as goal

abbrev pub invariant-loaded : goal.invariant-loaded
invariant-loaded l = record {
  within : l.coflow ≤ l.coflows;
  so_far : PaidAtSoFar l.loads l.charges l.place l.fn.paid l.paid l.coflow;
}

abbrev pub decreases-loaded : goal.decreases-loaded
decreases-loaded l = l.coflows - l.coflow
