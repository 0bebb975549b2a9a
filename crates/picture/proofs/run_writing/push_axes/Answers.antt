use Rattle.picture.proofs.TextSteps.{more}
use Rattle.picture.proofs.run_writing.push_axes.Goals as goal

pub returns : goal.returns
returns c =
    let t = c.args.text.now.items in
    more t _ _ (more t _ _ (more t _ _ (c.in_ok-push_frame.ensures)
    (c.in_ok-push_slot_axis.ensures))
    (c.in_ok-push_height_label.ensures))
    (c.in_ok-push_height_label-2.ensures)
