use Rattle.std.proofs.Common.{◌≡◌, ◌+◌, ◌<◌, reverse, subst, sym, arith}
use Rattle.std.specs.Prelude.{slice_index}
use Rattle.flow_table.specs.Table.{instance_of}
use Rattle.release_bound.specs.declared.best.Released.{Released}
use Rattle.release_bound.proofs.Thresholds.{best_new, best_of_all, best_old, index_of, IsBestUpTo}
use Rattle.release_bound.proofs.best.best_released.Goals.{then-other-best, else-other-best}
use Rattle.release_bound.proofs.best.best_released.Goals as goal

pub loop-by-preserved : goal.loop-by-preserved
loop-by-preserved c =
    let i = instance_of c.args.table.now c.args.weights.now in
    let arrival = slice_index c.args.arrivals.now in
    let k = c.loop-by.by-index in
    let old = c.loop-by.best in
    let other = c.in_ok-other.other in
    let inside : k < 5 = omega (arith, c.loop-by-test.true) in
    elim c.if-other-best.branch [
      | then-other-best w ↦
          subst (λ (b : Released). IsBestUpTo (k + 1) i arrival (reverse b.places.items) b.total) (sym w.best-is)
          (best_new k i arrival (reverse old.places.items) old.total c.loop-by.invariant _ (index_of k _ inside) (reverse other.places.items) other.total
          c.in_ok-other.ensures.certificate c.in_ok-other.ensures.total w.if-other-best.true)
      | else-other-best w ↦
          subst (λ (b : Released). IsBestUpTo (k + 1) i arrival (reverse b.places.items) b.total) (sym w.best-is)
          (best_old k i arrival (reverse old.places.items) old.total c.loop-by.invariant _ (index_of k _ inside) (reverse other.places.items) other.total
          c.in_ok-other.ensures.certificate c.in_ok-other.ensures.total w.if-other-best.false)
    ]

pub returns : goal.returns
returns c =
    let i = instance_of c.args.table.now c.args.weights.now in
    let arrival = slice_index c.args.arrivals.now in
    let best = c.loop-by.best in
    let all : c.loop-by.by-index ≡ 5 = omega (arith, c.loop-by-test.false, c.loop-by.auto) in
    best_of_all i arrival (reverse best.places.items) best.total (subst (λ n. IsBestUpTo n i arrival (reverse best.places.items) best.total) all c.loop-by.invariant)
