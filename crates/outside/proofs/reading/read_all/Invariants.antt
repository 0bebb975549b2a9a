use Rattle.std.proofs.Common.{◌≡◌, ◌≤◌, length, ◌-◌}
use Rattle.outside.proofs.SoFar.{ToldSoFar}
use Rattle.outside.proofs.reading.read_all.Given as goal

abbrev pub invariant-loop-count : goal.invariant-loop-count
invariant-loop-count g l = record {
  short : length l.bytes.items ≤ l.most;
  started : g.H.Shelf.started l.shelf ≡ g.H.Shelf.started l.fn.shelf;
  still : g.H.Shelf.faults l.shelf ≡ g.H.Shelf.faults l.fn.shelf;
  told : ToldSoFar (g.H.Shelf.told l.fn.shelf) (g.H.Shelf.told l.shelf) l.place l.bytes.items;
}

abbrev pub decreases-loop-count : goal.decreases-loop-count
decreases-loop-count g l = l.most - length l.bytes.items
