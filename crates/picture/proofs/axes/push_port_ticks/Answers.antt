use Rattle.std.proofs.Common.{◌*◌, zero-add}
use Rattle.picture.specs.Svg.{port_tick}
use Rattle.picture.proofs.TextSteps.{number_more}
use Rattle.picture.proofs.axes.push_port_ticks.Goals as goal

pub loop-turn-preserved : goal.loop-turn-preserved
loop-turn-preserved c =
    number_more (λ k. port_tick c.args.picture.now (k * c.args.step)) 0 c.loop-turn.turn c.loop-turn.turn c.args.text.now.items c.loop-turn.text.items
    c.push_port_tick.new.text.items
    (zero-add c.loop-turn.turn) c.loop-turn.invariant c.in_ok-push_port_tick.ensures
