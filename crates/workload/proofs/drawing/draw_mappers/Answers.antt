use Rattle.std.proofs.Common.{ap, sym, ◌∙◌}
use Rattle.workload.specs.Draws.{after, draw, next}
use Rattle.workload.proofs.DrawSteps.{after_more, element_more}
use Rattle.workload.proofs.drawing.draw_mappers.Goals as goal

pub loop-mapper-preserved : goal.loop-mapper-preserved
loop-mapper-preserved c =
    let start = next c.args.numbers.now.state in
    let k = c.loop-mapper._mapper in
    record {
      items = element_more (λ j. draw 150 (after j start)) k c.draw.result c.loop-mapper.mappers.items c.push.new.self.items c.loop-mapper.invariant.items
          c.in_ok-push.ensures.items (c.draw.ensures.drawn ∙ ap (draw 150) c.loop-mapper.invariant.state);
      state = c.draw.ensures.state ∙ (ap next c.loop-mapper.invariant.state ∙ sym (after_more k start));
    }
