use Rattle.std.proofs.Common.{◌++◌, ◌∷◌, [], arith, get_or, subst, sym, take}
use Rattle.std.proofs.lemmas.List.{take_more}
use Rattle.std.proofs.lemmas.List.Sums.{sum_by_more}
use Rattle.coflow_units.specs.declared.fabric.Flow.{Flow}
use Rattle.coflow_stats.specs.Finished.{IsLongest}
use Rattle.coflow_stats.proofs.FinishedSteps.{longest_more}
use Rattle.coflow_stats.proofs.finished.sizes_of.Goals as goal

pub loop-flow-preserved : goal.loop-flow-preserved
loop-flow-preserved c =
    let flows = c.args.flows.now in
    let k = c.loop-flow.flow-index in
    let d : Flow = record { coflow = 0; ingress = 0; egress = 0; units = 0 } in
    let longer = longest_more (take k flows) (get_or flows k d) c.loop-flow.longest c.loop-flow.invariant.longest_is in
    record {
      units_are = omega (arith, c.loop-flow.invariant.units_are, sum_by_more (λ (x : Flow). x.units) flows k d (omega arith));
      longest_is = subst (λ l. IsLongest l c.max-longest.result) (sym (take_more flows k d (omega arith)))
          (subst (IsLongest (take k flows ++ (get_or flows k d ∷ []))) (sym c.max-longest.ensures) longer);
    }
