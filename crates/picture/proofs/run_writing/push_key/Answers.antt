use Rattle.picture.proofs.TextSteps.{more}
use Rattle.picture.proofs.run_writing.push_key.Goals as goal

pub returns : goal.returns
returns c =
    let t = c.args.text.now.items in
    more t _ _ (more t _ _ (more t _ _ (more t _ _ (more t _ _ (more t _ _ (rw c.key_y.ensures.y at c.in_ok-push_number.ensures)
    (c.in_ok-extend_from_slice.ensures.items))
    (rw c.style_of.ensures at c.in_ok-extend_from_slice-2.ensures.items))
    (rw c.key_y-2.ensures.y at c.in_ok-push_number-2.ensures))
    (c.in_ok-extend_from_slice-3.ensures.items))
    (rw c.word_of.ensures at c.in_ok-extend_from_slice-4.ensures.items))
    (c.in_ok-extend_from_slice-5.ensures.items)
