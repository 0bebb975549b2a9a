use Rattle.picture.proofs.TextSteps.{more}
use Rattle.picture.proofs.axes.push_done_axis.Goals as goal

pub returns : goal.returns
returns c =
    let t = c.args.text.now.items in
    more t _ _ (rw (c.curve_top.ensures.top, c.as_slice.ensures) at c.in_ok-push_height_label.ensures) (rw c.curve_end.ensures.end at c.in_ok-push_height_label-2.ensures)
