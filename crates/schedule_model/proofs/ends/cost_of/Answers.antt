use Rattle.std.proofs.Common.{◌≡◌, ◌≤◌, ◌∙◌, ℕ, length, slice_index, sum_by, ap, arith}
use Rattle.std.specs.List.{range_with_len}
use Rattle.schedule_model.proofs.CostSums.{cost_by_ends, cost_fits, cost_more, priced, weight_small}
use Rattle.schedule_model.proofs.ends.cost_of.Goals as goal

pub overflow_add-cost : goal.overflow_add-cost
overflow_add-cost c =
    let k = c.loop-coflow.coflow in
    let short = λ (i : ℕ). let e : slice_index c.args.ends.now i ≤ 18446744073709551615 = omega (arith, c.type_inv.ends i) in e in
    let weight : c.from.result ≤ 4294967296 = omega (arith, c.from.ensures, weight_small c.args.weights.now k c.requires.small) in
    let end : c.from-in-loop-coflow.result ≤ 18446744073709551615 = omega (arith, c.from-in-loop-coflow.ensures, c.type_inv.ends k) in
    omega (
      arith,
      cost_fits c.args.weights.now c.args.ends.now k c.loop-coflow.cost c.from.result c.from-in-loop-coflow.result c.requires.small short
          (omega (arith, c.loop-coflow.auto.coflow-end, c.requires.few)) c.loop-coflow.invariant weight end,
    )

pub loop-coflow-preserved : goal.loop-coflow-preserved
loop-coflow-preserved c = cost_more c.args.weights.now c.args.ends.now c.loop-coflow.coflow c.loop-coflow.cost c.from.result c.from-in-loop-coflow.result c.loop-coflow.invariant
    c.from.ensures c.from-in-loop-coflow.ensures

pub returns-clause-cost : goal.returns-clause-cost
returns-clause-cost c flows slots are =
    let last : c.loop-coflow.coflow ≡ length c.args.weights.now = omega arith in
    c.loop-coflow.invariant ∙ ap (λ n. sum_by (priced c.args.weights.now c.args.ends.now) (range_with_len 0 n)) last ∙
    cost_by_ends flows slots c.args.weights.now c.args.ends.now (length c.args.weights.now) are
