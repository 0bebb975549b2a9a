use Rattle.std.proofs.Common.{◌+◌, ◌*◌, slice_index, refl, subst, sym, ap, ◌∙◌, arith}
use Rattle.bssi_order.specs.Bounds.{IsFirstGreatest}
use Rattle.bssi_order.proofs.BoundSteps.{best_keep, best_one, best_take}
use Rattle.bssi_order.proofs.greatest.first_in_block.Goals.{then-total-most, else-total-most}
use Rattle.bssi_order.proofs.greatest.first_in_block.Goals as goal

pub loop-place-init : goal.loop-place-init
loop-place-init c = record {
  first = best_one c.args.totals.now (64 * c.args.block);
  most = refl;
}

pub loop-place-preserved : goal.loop-place-preserved
loop-place-preserved c =
    let totals = c.args.totals.now in
    let start = 64 * c.args.block in
    let k = c.loop-place.place in
    let best = c.loop-place.best in
    let before = c.loop-place.invariant in
    elim c.if-total-most.branch [
      | then-total-most w ↦ record {
        first = subst (λ n. IsFirstGreatest totals start (k + 1) n) (sym w.best-is) (best_take totals start k best before.first (omega (arith, w.if-total-most.true, before.most)));
        most = w.most-is ∙ ap (λ n. slice_index totals n) (sym w.best-is);
      }
      | else-total-most w ↦ record {
        first = subst (λ n. IsFirstGreatest totals start (k + 1) n) (sym w.best-is)
            (best_keep totals start k best before.first (omega (arith, w.if-total-most.false, before.most)));
        most = w.most-is ∙ before.most ∙ ap (λ n. slice_index totals n) (sym w.best-is);
      }
    ]

pub returns : goal.returns
returns c =
    let first = c.loop-place.invariant.first in
    record {
      after = first.after;
      before = omega (arith, first.before, c.loop-place.auto.place);
      greatest = λ k le lt. first.greatest k le (omega (arith, lt, c.loop-place-test.false));
    }
