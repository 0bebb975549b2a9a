use Rattle.std.proofs.Common.{◌∙◌, ◌+◌, ◌*◌, ◌<◌, ◌≤◌, length, arith, ap, subst, sym}
use Rattle.std.specs.Prelude.{slice_index}
use Rattle.std.proofs.Math.Nat.{mul-le-mul}
use Rattle.release_bound.proofs.Bottlenecks.{one_counts, one_counts_not}
use Rattle.release_bound.proofs.best.arrivals_cost.Goals.{then-starts-coflow, else-starts-coflow}
use Rattle.release_bound.proofs.best.arrivals_cost.Goals as goal

pub loop-coflow-preserved : goal.loop-coflow-preserved
loop-coflow-preserved c =
    let t = c.args.table.now in
    let weights = c.args.weights.now in
    let arrivals = c.args.arrivals.now in
    let k = c.loop-coflow.coflow in
    let known : k < length t.ids = omega (arith, c.loop-coflow-test.true, c.requires.weight_each) in
    let timed : k < length arrivals = omega (arith, known, c.requires.arrival_each) in
    elim c.if-starts-coflow.branch [
      | then-starts-coflow w ↦
          let some = subst (λ l. slice_index l k < slice_index l (k + 1)) c.starts-starts.ensures.starts w.if-starts-coflow.true in
          let part = ap (λ n. n * w.from-then-starts-coflow.result) w.from.ensures ∙ ap (λ n. slice_index weights k * n) w.from-then-starts-coflow.ensures in
          let small = mul-le-mul (c.requires.weight_range k 0 c.loop-coflow-test.true) (c.requires.arrival_range k 0 timed) in
          record {
            total_is = omega (arith, w.total-is, part, c.loop-coflow.invariant.total_is, one_counts t weights arrivals k c.starts-starts.ensures.table known some);
            within = omega (arith, w.total-is, part, c.loop-coflow.invariant.within, small);
          }
      | else-starts-coflow w ↦
          let none = subst (λ l. slice_index l (k + 1) ≤ slice_index l k) c.starts-starts.ensures.starts w.if-starts-coflow.false in
          record {
            total_is = w.total-is ∙ c.loop-coflow.invariant.total_is ∙ sym (one_counts_not t weights arrivals k c.starts-starts.ensures.table known none);
            within = omega (arith, w.total-is, c.loop-coflow.invariant.within);
          }
    ]
