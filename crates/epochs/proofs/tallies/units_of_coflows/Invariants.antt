use Rattle.std.proofs.Common.{◌≤◌, length}
use Rattle.epochs.proofs.Tallying.{TalliedTo}
use Rattle.epochs.proofs.tallies.units_of_coflows.Given as goal

abbrev pub invariant-flows : goal.invariant-flows
invariant-flows l = record {
  so_far : TalliedTo l.flows l.left l.owed.items l.coflows l.number;
  within : l.number ≤ length l.flows;
}
