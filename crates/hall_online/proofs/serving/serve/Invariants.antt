use Rattle.std.proofs.Common.{◌≡◌, ◌≤◌, ◌-◌, length, vec_capacity}
use Rattle.hall_online.proofs.ServeSteps.{StillServing}
use Rattle.hall_online.proofs.serving.serve.Given as goal

abbrev pub invariant-actions : goal.invariant-actions
invariant-actions g l = record {
  serving : StillServing g.W.Wire.faults g.W.Wire.runs l.hall l.fn.crew l.crew l.fn.kept.course l.kept.course l.fn.kept.progress l.kept.progress;
  places : length l.table.ids ≤ vec_capacity l.kept.orders.places;
  coflows : l.kept.orders.loads.coflows ≡ length l.table.ids;
  ports : l.kept.orders.loads.ports ≡ l.table.ports;
}

abbrev pub decreases-actions : goal.decreases-actions
decreases-actions g l = l.hall.setting.opening.limit - length l.crew.runner.driver.journal
