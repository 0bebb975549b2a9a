use Rattle.std.proofs.Common.{◌≡◌, length}
use Rattle.dual_cert.proofs.BudgetSteps.{IsPaidTo}
use Rattle.dual_cert.proofs.budgets.payments.Given as goal

abbrev pub invariant-loop-place : goal.invariant-loop-place
invariant-loop-place l = record {
  len : length l.paid ≡ 4096;
  paid : IsPaidTo l.loads l.charges l.place l.paid;
}
