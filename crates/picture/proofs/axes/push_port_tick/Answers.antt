use Rattle.picture.proofs.TextSteps.{more}
use Rattle.picture.proofs.axes.push_port_tick.Goals as goal

pub returns : goal.returns
returns c =
    let t = c.args.text.now.items in
    more t _ _ (more t _ _ (rw c.port_y-y.ensures.y at c.in_ok-push_number.ensures)
    (c.in_ok-extend_from_slice.ensures.items))
    (rw c.port_y-y.ensures.y at c.in_ok-push_height_label.ensures)
