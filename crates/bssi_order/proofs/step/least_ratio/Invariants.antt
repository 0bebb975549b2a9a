use Rattle.std.proofs.Common.{◌-◌, ◌<◌, ◌≤◌}
use Rattle.port_load.specs.LoadTable.{load_at}
use Rattle.bssi_order.proofs.TableSteps.{LeastSoFar}
use Rattle.bssi_order.proofs.step.least_ratio.Given as goal

abbrev pub invariant-loaded : goal.invariant-loaded
invariant-loaded l = record {
  within : l.coflow ≤ l.coflows;
  here : l.coflow < l.coflows → 0 < load_at l.loads l.coflow l.port;
  so_far : LeastSoFar l.loads l.residuals l.port l.least l.least_load l.coflow;
}

abbrev pub decreases-loaded : goal.decreases-loaded
decreases-loaded l = l.coflows - l.coflow
