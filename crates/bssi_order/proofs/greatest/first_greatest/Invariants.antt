-- the first greatest of the blocks so far
use Rattle.bssi_order.specs.Bounds.{AreBounds}
use Rattle.bssi_order.proofs.BoundSteps.{BestSoFar}
use Rattle.bssi_order.proofs.greatest.first_greatest.Given as goal

abbrev pub invariant-loop-block : goal.invariant-loop-block
invariant-loop-block l = record {
  so_far : BestSoFar l.totals l.best l.block;
  bounds : AreBounds l.totals l.bounds;
}
