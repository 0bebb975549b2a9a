-- the coflows so far are the first ones
use Rattle.std.proofs.Common.{◌≡◌, ◌≤◌, ◌*◌}
use Rattle.workload.specs.Coflows.{arrival_before, before_coflow, first_coflows}
use Rattle.workload.proofs.drawing.draw_coflows.Given as goal

abbrev pub invariant-loop-index : goal.invariant-loop-index
invariant-loop-index l = record {
  items : l.coflows.items ≡ first_coflows l.seed l.index;
  state : l.numbers.state ≡ before_coflow l.seed l.index;
  arrival : l.arrival ≡ arrival_before l.seed l.index;
  small : l.arrival ≤ 100 * l.index;
}
