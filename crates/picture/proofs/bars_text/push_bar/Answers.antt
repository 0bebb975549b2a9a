use Rattle.picture.proofs.TextSteps.{more}
use Rattle.picture.proofs.bars_text.push_bar.Goals as goal

pub returns : goal.returns
returns c =
    let t = c.args.text.now.items in
    more t _ _ (more t _ _ (more t _ _ (more t _ _ (more t _ _ (more t _ _ (rw c.saturating_sub-from.ensures at c.in_ok-push_number.ensures)
    (c.in_ok-push_number-2.ensures))
    (rw (c.saturating_sub-length.ensures, c.saturating_sub.ensures) at c.in_ok-push_number-3.ensures))
    (c.in_ok-extend_from_slice.ensures.items))
    (rw c.colour_of.ensures at c.in_ok-push_colour.ensures))
    (rw (c.from.ensures, c.id_of.ensures) at c.in_ok-push_number-4.ensures))
    (c.in_ok-extend_from_slice-2.ensures.items)
