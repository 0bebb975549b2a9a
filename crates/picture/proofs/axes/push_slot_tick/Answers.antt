use Rattle.picture.proofs.TextSteps.{more}
use Rattle.picture.proofs.axes.push_slot_tick.Goals as goal

pub returns : goal.returns
returns c =
    let t = c.args.text.now.items in
    more t _ _ (more t _ _ (more t _ _ (more t _ _ (more t _ _ (rw c.slot_x-x.ensures at c.in_ok-push_number.ensures)
    (c.in_ok-push_number-2.ensures))
    (rw c.slot_x-x.ensures at c.in_ok-push_number-3.ensures))
    (c.in_ok-push_number-4.ensures))
    (c.in_ok-push_number-5.ensures))
    (c.in_ok-extend_from_slice.ensures.items)
