use Rattle.std.proofs.Common.{◌*◌, ◌≤◌, ◌<◌, ℕ, arith, get_or}
use Rattle.schedule_model.specs.Weights.{weight_of}
use Rattle.class_rates.proofs.CapSteps.{part_fits, product, small_at, sum_more, total_fits}
use Rattle.class_rates.proofs.caps.weighted_sum.Goals as goal

pub overflow_add-total : goal.overflow_add-total
overflow_add-total c =
    let k = c.loop-coflow.coflow in
    let weights = c.args.weights.now in
    let caps = c.args.caps.now in
    let weight = λ (i : ℕ). let e : weight_of weights i < 18446744073709551616 = omega (arith, c.type_inv.weights i) in e in
    let each = λ (i : ℕ). part_fits (weight_of weights i) (get_or caps i 0) (weight i) (small_at caps i 2199023255552 c.requires.small) in
    let a : c.from.result < 18446744073709551616 = omega (arith, c.from.ensures, weight k) in
    let b : c.from-in-loop-coflow.result ≤ 2199023255552 = omega (arith, c.from-in-loop-coflow.ensures, small_at caps k 2199023255552 c.requires.small) in
    omega (
      arith,
      total_fits (λ i. weight_of weights i * get_or caps i 0) k c.loop-coflow.total (c.from.result * c.from-in-loop-coflow.result)
          (omega (arith, c.loop-coflow-test.true, c.requires.few)) each c.loop-coflow.invariant (part_fits c.from.result c.from-in-loop-coflow.result a b),
    )

pub loop-coflow-preserved : goal.loop-coflow-preserved
loop-coflow-preserved c =
    let k = c.loop-coflow.coflow in
    let weights = c.args.weights.now in
    let caps = c.args.caps.now in
    sum_more (λ i. weight_of weights i * get_or caps i 0) k c.loop-coflow.total c.from.result c.from-in-loop-coflow.result c.loop-coflow.invariant
    (product c.from.result c.from-in-loop-coflow.result (weight_of weights k) (get_or caps k 0) c.from.ensures c.from-in-loop-coflow.ensures)
