use Rattle.picture.proofs.TextSteps.{more}
use Rattle.picture.proofs.bars_text.push_head.Goals as goal

pub returns : goal.returns
returns c =
    let t = c.args.text.now.items in
    more t _ _ (more t _ _ (more t _ _ (more t _ _ (more t _ _ (more t _ _ (more t _ _ (more t _ _ (more t _ _ (c.in_ok-extend_from_slice.ensures.items)
    (rw c.side_word.ensures at c.in_ok-extend_from_slice-2.ensures.items))
    (c.in_ok-push_number.ensures))
    (c.in_ok-push_number-2.ensures))
    (rw c.bars_height.ensures.height at c.in_ok-push_number-3.ensures))
    (rw c.slot_count.ensures.count at c.in_ok-push_number-4.ensures))
    (rw c.as_slice.ensures at c.in_ok-push_number-5.ensures))
    (c.in_ok-extend_from_slice-3.ensures.items))
    (rw c.hairline.ensures at c.in_ok-push_three_digits.ensures))
    (c.in_ok-extend_from_slice-4.ensures.items)
