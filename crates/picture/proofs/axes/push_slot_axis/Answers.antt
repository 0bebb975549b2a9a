use Rattle.picture.proofs.TextSteps.{more}
use Rattle.picture.proofs.axes.push_slot_axis.Goals as goal

pub returns : goal.returns
returns c =
    let t = c.args.text.now.items in
    more t _ _ (more t _ _ (rw (c.step_of.ensures.step, c.slots_of.ensures.count) at c.in_ok-push_slot_ticks.ensures)
    (c.in_ok-push_number.ensures))
    (c.in_ok-extend_from_slice.ensures.items)
