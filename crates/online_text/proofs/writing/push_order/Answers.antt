use Rattle.online_text.specs.Text.{order_line_at}
use Rattle.online_text.proofs.TextSteps.{number_step}
use Rattle.online_text.proofs.writing.push_order.Goals as goal

pub loop-place-preserved : goal.loop-place-preserved
loop-place-preserved c = number_step (order_line_at c.args.places.now) c.loop-place.place c.args.text.now.items c.loop-place.text.items c.push_place.new.text.items
    c.loop-place.invariant c.in_ok-push_place.ensures
