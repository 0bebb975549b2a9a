-- the runs so far are served, and the grants are those of the next slot
use Rattle.coflow_units.specs.Served.{left_after}
use Rattle.coflow_units.proofs.ServedExists.{left_sum}
use Rattle.matching.specs.Matching.{IsSettled}
use Rattle.slot_switch.proofs.RunSteps.{IsServing}
use Rattle.slot_switch.proofs.simulation.serve.Given as goal

abbrev pub invariant-loop-grants : goal.invariant-loop-grants
invariant-loop-grants l = record {
  serving : IsServing l.flows l.order l.schedule;
  settled : IsSettled l.flows l.order (left_after l.flows l.schedule) l.grants;
}

abbrev pub decreases-loop-grants : goal.decreases-loop-grants
decreases-loop-grants l = left_sum l.flows l.schedule
