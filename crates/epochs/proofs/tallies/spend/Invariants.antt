use Rattle.std.proofs.Common.{◌≡◌, length}
use Rattle.epochs.proofs.Tallying.{SpentTo}
use Rattle.epochs.specs.Tallies.{IsTallied}
use Rattle.epochs.proofs.tallies.spend.Given as goal

abbrev pub invariant-granted : goal.invariant-granted
invariant-granted l = record {
  tallied : IsTallied l.flows l.left.items l.owed.items;
  each : length l.owed.items ≡ length l.fn.owed.items;
  spent : SpentTo l.fn.left.items l.left.items l.granted l.slots l.flow-index;
}
