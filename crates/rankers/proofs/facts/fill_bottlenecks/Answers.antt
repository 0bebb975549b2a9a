use Rattle.std.proofs.Common.{◌≡◌, ◌≢◌, ℕ, ◌<◌, get_or, length, set, subst, sym, ◌∙◌, arith, below_more, get_or-set_other, get_or-set_same}
use Rattle.std.proofs.lemmas.List.{length-set}
use Rattle.port_load.specs.Bottleneck.{IsBottleneck}
use Rattle.rankers.proofs.facts.fill_bottlenecks.Goals as goal

pub loop-coflow-preserved : goal.loop-coflow-preserved
loop-coflow-preserved c =
    let at = c.loop-coflow.coflow in
    let old = c.loop-coflow.bottlenecks in
    let lt : at < length old = omega (arith, c.loop-coflow.invariant.count, c.requires, c.loop-coflow-test.true, c.coflows-coflow-end.ensures) in
    record {
      count = length-set old at c.bottleneck.result ∙ c.loop-coflow.invariant.count;
      greatest = below_more (λ k. IsBottleneck c.args.loads.now k (get_or (set old at c.bottleneck.result) k 0)) at
          (λ k before. let ne : k ≢ at = omega arith in
          subst (IsBottleneck c.args.loads.now k) (sym (get_or-set_other old at k c.bottleneck.result 0 ne)) (c.loop-coflow.invariant.greatest k before))
          (subst (IsBottleneck c.args.loads.now at) (sym (get_or-set_same old at c.bottleneck.result 0 lt)) c.bottleneck.ensures);
    }
