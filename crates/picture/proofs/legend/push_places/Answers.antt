use Rattle.picture.proofs.TextSteps.{more}
use Rattle.picture.proofs.legend.push_places.Goals as goal

pub returns : goal.returns
returns c =
    let t = c.args.text.now.items in
    more t _ _ (more t _ _ (rw (c.swatch_width.ensures.width, c.swatches.ensures.count) at c.in_ok-push_number.ensures)
    (rw c.as_slice.ensures at c.in_ok-push_number-2.ensures))
    (c.in_ok-extend_from_slice.ensures.items)
