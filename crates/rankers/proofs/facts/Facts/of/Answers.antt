use Rattle.std.proofs.Common.{◌≡◌, ◌≤◌, length, ap, sym, subst, ◌∙◌, arith}
use Rattle.std.specs.Prelude.{All}
use Rattle.rankers.proofs.LoadCells.{cells_count, same_bottleneck, same_has_loads}
use Rattle.rankers.proofs.Permutations.{bssi_permutation}
use Rattle.rankers.proofs.facts.Facts.of.Goals as goal

pub invariant_of-result : goal.invariant_of-result
invariant_of-result c =
    let (count, whole) = bssi_permutation c.args.table.now c.args.weights.now c.in_ok-order.order.items c.in_ok-order.ensures in
    let table = c.in_ok-arrivals.ensures.table in
    let weights : length c.in_ok-weights.weights.items ≡ length c.args.table.now.ids = ap (λ xs. length xs) c.in_ok-weights.ensures.items ∙ c.requires.count in
    record {
      few = omega (arith, weights, table.few_coflows);
      weight = subst (All (λ w. w ≤ 4294967296)) (sym c.in_ok-weights.ensures.items) c.requires.weights;
      arrivals_len = ap (λ xs. length xs) c.in_ok-arrivals.ensures.arrivals ∙ table.arrivals ∙ sym weights;
      arrival = c.in_ok-arrivals.ensures.small;
      coflows = c.in_ok-loads.ensures.coflows_are ∙ sym weights;
      cells_len = cells_count c.in_ok-loads.loads;
      bottlenecks_len = c.in_ok-loads.ensures.length ∙ sym weights;
      bottleneck = λ k lt.
          same_bottleneck c.in_ok-loads.loads k _ (omega (arith, lt, weights, c.in_ok-loads.ensures.coflows_are)) (c.in_ok-loads.ensures.greatest k (omega (arith, lt, weights)));
      units = c.in_ok-loads.ensures.small;
      order_len = count ∙ sym weights;
      order_is = whole;
    }

pub returns : goal.returns
returns c = record {
  weights_are = c.in_ok-weights.ensures.items;
  arrivals_are = c.in_ok-arrivals.ensures.arrivals;
  ports_are = c.in_ok-loads.ensures.ports_are;
  loads_are = same_has_loads c.args.table.now.flows c.in_ok-loads.loads c.in_ok-loads.ensures.loads_are;
  order_is = c.in_ok-order.ensures;
}
