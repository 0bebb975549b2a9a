use Rattle.std.proofs.Common.{◌+◌, slice_index, subst, sym, arith}
use Rattle.bssi_order.proofs.BoundSteps.{BestSoFar, block_within, bound_set, first_of_all, so_far_keep, so_far_none, so_far_take, within_bound}
use Rattle.bssi_order.proofs.greatest.first_greatest.Goals.{then-found-most, else-found-most}
use Rattle.bssi_order.proofs.greatest.first_greatest.Goals as goal

pub loop-block-init : goal.loop-block-init
loop-block-init c = record {
  so_far = so_far_none c.args.totals.now c.requires.some;
  bounds = c.requires.bounded;
}

pub loop-block-preserved-then-bound-most : goal.loop-block-preserved-then-bound-most
loop-block-preserved-then-bound-most c =
    let i = c.loop-block.invariant in
    record {
      so_far = so_far_keep c.args.totals.now c.loop-block.best c.loop-block.block (slice_index c.loop-block.bounds c.loop-block.block) i.so_far
          (omega (arith, c.if-bound-most.true))
          (within_bound c.args.totals.now c.loop-block.bounds c.loop-block.block i.bounds (omega (arith, c.loop-block-test.true, c.requires.room, c.loop-block.auto.bounds)));
      bounds = i.bounds;
    }

pub loop-block-preserved : goal.loop-block-preserved
loop-block-preserved c =
    let totals = c.args.totals.now in
    let block = c.loop-block.block in
    let best = c.loop-block.best in
    let here = c.first_in_block-here.result in
    let i = c.loop-block.invariant in
    let first = c.first_in_block-here.ensures in
    let bounds = bound_set totals c.loop-block.bounds block here i.bounds (omega (arith, c.loop-block-test.true, c.requires.room, c.loop-block.auto.bounds)) first in
    elim c.if-found-most.branch [
      | then-found-most w ↦ record {
        so_far = subst (λ n. BestSoFar totals n (block + 1)) (sym w.best-is) (so_far_take totals best block here i.so_far first (omega (arith, w.if-found-most.true)));
        bounds = bounds;
      }
      | else-found-most w ↦ record {
        so_far = subst (λ n. BestSoFar totals n (block + 1)) (sym w.best-is)
            (so_far_keep totals best block (slice_index totals here) i.so_far (omega (arith, w.if-found-most.false)) (block_within totals block here first));
        bounds = bounds;
      }
    ]

pub returns-clause-greatest : goal.returns-clause-greatest
returns-clause-greatest c = first_of_all c.args.totals.now c.loop-block.best c.loop-block.block c.loop-block.invariant.so_far
    (omega (arith, c.loop-block-test.false, c.requires.all))
