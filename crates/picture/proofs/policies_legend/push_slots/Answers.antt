use Rattle.picture.proofs.TextSteps.{more}
use Rattle.picture.proofs.policies_legend.push_slots.Goals as goal

pub returns : goal.returns
returns c =
    let t = c.args.text.now.items in
    more t _ _ (more t _ _ (more t _ _ (more t _ _ (c.in_ok-push_number.ensures)
    (c.in_ok-extend_from_slice.ensures.items))
    (c.in_ok-extend_from_slice-2.ensures.items))
    (c.in_ok-push_number-2.ensures))
    (c.in_ok-extend_from_slice-3.ensures.items)
