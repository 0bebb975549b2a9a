use Rattle.picture.proofs.TextSteps.{more}
use Rattle.picture.proofs.legend.push_swatch.Goals as goal

pub returns : goal.returns
returns c =
    let t = c.args.text.now.items in
    more t _ _ (more t _ _ (more t _ _ (more t _ _ (rw c.swatch_width-width.ensures.width at c.in_ok-push_number.ensures)
    (rw c.swatch_width-width.ensures.width at c.in_ok-push_number-2.ensures))
    (c.in_ok-extend_from_slice.ensures.items))
    (rw (c.colour_at.ensures, c.swatches.ensures.count) at c.in_ok-push_colour.ensures))
    (c.in_ok-extend_from_slice-2.ensures.items)
