use Rattle.picture.proofs.TextSteps.{more}
use Rattle.picture.proofs.palette.push_colour.Goals as goal

pub returns : goal.returns
returns c =
    let t = c.args.text.now.items in
    more t _ _ (more t _ _ (more t _ _ (rw (c.from.ensures, c.red.ensures.red) at c.in_ok-push_number.ensures)
    (rw (c.from-2.ensures, c.green.ensures.green) at c.in_ok-push_number-2.ensures))
    (rw (c.from-3.ensures, c.blue.ensures.blue) at c.in_ok-push_number-3.ensures))
    (c.in_ok-extend_from_slice.ensures.items)
