use Rattle.std.proofs.Common.{◌≡◌, ◌<◌, length, refl, slice_index, subst, sym, arith, rules}
use Rattle.std.proofs.lemmas.List.{get_or_read}
use Rattle.coflow_units.specs.Completion.{completion}
use Rattle.schedule_model.specs.RunList.{slots_in}
use Rattle.coflow_stats.specs.Finished.{IsFinished, IsGreatestLoad}
use Rattle.coflow_stats.proofs.FinishedSteps.{count_of, each_more, number_at}
use Rattle.coflow_stats.proofs.finished.finished_of.Goals as goal

pub index-requires-in-loop-coflow : goal.index-requires-in-loop-coflow
index-requires-in-loop-coflow c =
    let ends = count_of _ c.in_ok-ends.ends.items _ c.in_ok-ends.ensures in
    omega (arith, ends, c.in_ok-ends.ends.ok.0, c.coflows.ensures.coflows, c.coflows-coflow-end.ensures.coflows)

pub loop-coflow-preserved : goal.loop-coflow-preserved
loop-coflow-preserved c =
    let t = c.args.table.now in
    let k = c.loop-coflow.coflow in
    let lt : k < length t.ids = omega (arith, c.coflows-coflow-end.ensures.coflows) in
    let slots = slots_in c.args.runs.now in
    let known : k < c.coflows.result = omega (arith, c.coflows.ensures.coflows) in
    let bottlenecks = c.in_ok-bottlenecks.bottlenecks.items in
    let held : k < length bottlenecks = omega (arith, c.in_ok-bottlenecks.ensures.count) in
    let greatest : IsGreatestLoad t k c.index.result.now = subst (IsGreatestLoad t k) (sym (get_or_read bottlenecks k c.index.result.now held c.index.ensures 0))
    (c.in_ok-bottlenecks.ensures.greatest k lt) in
    let end = c.index-in-loop-coflow.result.now in
    let at : end ≡ completion c.flows.result.now slots k =
    number_at (completion c.flows.result.now slots) c.in_ok-ends.ends.items c.coflows.result k end c.in_ok-ends.ensures known c.index-in-loop-coflow.ensures in
    let ended : end ≡ completion t.flows slots k = subst (λ fs. end ≡ completion fs slots k) c.flows.ensures.flows at in
    record {
      count = search rules;
      each_is = λ n d before. each_more (IsFinished t c.args.weights.now (slice_index c.args.arrivals.now) slots) c.loop-coflow.coflows.items c.push.new.self.items _ k d
          c.in_ok-push.ensures.items c.loop-coflow.invariant.count (λ m less. c.loop-coflow.invariant.each_is m d less) record {
            id_is = c.id.ensures;
            arrival_is = refl;
            flows_is = c.sizes_in-sizes.ensures.flows_is;
            units_is = c.sizes_in-sizes.ensures.units_is;
            longest_is = c.sizes_in-sizes.ensures.longest_is;
            bottleneck_is = greatest;
            weight_is = refl;
            completion_is = ended;
          } n before;
    }
