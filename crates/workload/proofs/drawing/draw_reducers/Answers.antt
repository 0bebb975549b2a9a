use Rattle.std.proofs.Common.{◌*◌, ap, sym, ◌∙◌}
use Rattle.workload.specs.Coflows.{reducer_from}
use Rattle.workload.specs.Draws.{after, next}
use Rattle.workload.proofs.DrawSteps.{after_two, element_more}
use Rattle.workload.proofs.drawing.draw_reducers.Goals as goal

pub loop-reducer-preserved : goal.loop-reducer-preserved
loop-reducer-preserved c =
    let start = next c.args.numbers.now.state in
    let k = c.loop-reducer._reducer in
    record {
      items = element_more (λ j. reducer_from (after (2 * j) start)) k c.draw_reducer.result c.loop-reducer.reducers.items c.push.new.self.items c.loop-reducer.invariant.items
          c.in_ok-push.ensures.items (c.draw_reducer.ensures.reducer ∙ ap reducer_from c.loop-reducer.invariant.state);
      state = c.draw_reducer.ensures.state ∙ (ap (λ x. next (next x)) c.loop-reducer.invariant.state ∙ sym (after_two k start));
    }
