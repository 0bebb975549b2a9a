use Rattle.std.proofs.Common.{◌-◌, ◌≤◌}
use Rattle.bssi_order.proofs.TableSteps.{PaidSoFar}
use Rattle.bssi_order.proofs.step.pay.Given as goal

abbrev pub invariant-loaded : goal.invariant-loaded
invariant-loaded l = record {
  within : l.coflow ≤ l.coflows;
  so_far : PaidSoFar l.loads l.port l.y l.fn.residuals l.residuals l.coflow;
}

abbrev pub decreases-loaded : goal.decreases-loaded
decreases-loaded l = l.coflows - l.coflow
