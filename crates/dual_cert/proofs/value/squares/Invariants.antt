use Rattle.std.proofs.Common.{◌≡◌, ◌-◌, ◌≤◌}
use Rattle.dual_cert.specs.PlaceTable.{load_up_to}
use Rattle.dual_cert.proofs.FrontSums.{sum_to}
use Rattle.dual_cert.proofs.ValueSteps.{square_up_to}
use Rattle.dual_cert.proofs.value.squares.Given as goal

abbrev pub invariant-loaded : goal.invariant-loaded
invariant-loaded l = record {
  within : l.coflow ≤ l.coflows;
  total_is : l.total ≡ sum_to (load_up_to l.loads l.charges l.place) l.coflow;
  squares_are : l.squares ≡ sum_to (square_up_to l.loads l.charges l.place) l.coflow;
}

abbrev pub decreases-loaded : goal.decreases-loaded
decreases-loaded l = l.coflows - l.coflow
