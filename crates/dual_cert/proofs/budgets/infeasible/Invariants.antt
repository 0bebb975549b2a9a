use Rattle.dual_cert.proofs.BudgetSteps.{StayTo}
use Rattle.dual_cert.proofs.budgets.infeasible.Given as goal

abbrev pub invariant-loop-coflow : goal.invariant-loop-coflow
invariant-loop-coflow l = StayTo l.paid l.weights l.coflow
