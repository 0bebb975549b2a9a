-- the first greatest of the places so far
use Rattle.std.proofs.Common.{◌≡◌, slice_index}
use Rattle.bssi_order.specs.Bounds.{IsFirstGreatest}
use Rattle.bssi_order.proofs.greatest.first_in_block.Given as goal

abbrev pub invariant-loop-place : goal.invariant-loop-place
invariant-loop-place l = record {
  first : IsFirstGreatest l.totals l.start l.place l.best;
  most : l.most ≡ slice_index l.totals l.best;
}
