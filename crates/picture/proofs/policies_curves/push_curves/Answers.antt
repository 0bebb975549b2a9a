use Rattle.picture.proofs.TextSteps.{more}
use Rattle.picture.proofs.policies_curves.push_curves.Goals as goal

pub returns : goal.returns
returns c =
    let t = c.args.text.now.items in
    more t _ _ (more t _ _ (more t _ _ (more t _ _ (more t _ _ (c.in_ok-extend_from_slice.ensures.items)
    (c.in_ok-push_each.ensures))
    (c.in_ok-push_frame.ensures))
    (c.in_ok-push_axis.ensures))
    (c.in_ok-push_height_label.ensures))
    (c.in_ok-push_height_label-2.ensures)
