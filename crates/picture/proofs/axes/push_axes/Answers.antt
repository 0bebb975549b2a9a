use Rattle.picture.proofs.TextSteps.{more}
use Rattle.picture.proofs.axes.push_axes.Goals as goal

pub returns : goal.returns
returns c =
    let t = c.args.text.now.items in
    more t _ _ (more t _ _ (more t _ _ (more t _ _ (more t _ _ (rw c.bars_height.ensures.height at c.in_ok-push_frame.ensures)
    (rw (c.bars_end.ensures.end, c.span_of.ensures.slots) at c.in_ok-push_slot_axis.ensures))
    (c.in_ok-push_port_axis.ensures))
    (rw c.curve_top.ensures.top at c.in_ok-push_frame-2.ensures))
    (rw (c.curve_end.ensures.end, c.span_of-2.ensures.slots) at c.in_ok-push_slot_axis-2.ensures))
    (c.in_ok-push_done_axis.ensures)
