use Rattle.picture.proofs.TextSteps.{more}
use Rattle.picture.proofs.curve_text.push_head.Goals as goal

pub returns : goal.returns
returns c =
    let t = c.args.text.now.items in
    more t _ _ (more t _ _ (more t _ _ (more t _ _ (rw c.curve_top-top.ensures.top at c.in_ok-push_number.ensures)
    (rw c.curve_top-top.ensures.top at c.in_ok-push_number-2.ensures))
    (rw c.slot_count.ensures.count at c.in_ok-push_number-3.ensures))
    (rw c.as_slice.ensures at c.in_ok-push_number-4.ensures))
    (rw c.as_slice.ensures at c.in_ok-push_number-5.ensures)
