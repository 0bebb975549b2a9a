use Rattle.picture.proofs.TextSteps.{more}
use Rattle.picture.proofs.policies_bars.push_name.Goals as goal

pub returns : goal.returns
returns c =
    let t = c.args.text.now.items in
    more t _ _ (more t _ _ (more t _ _ (rw c.bar_y.ensures.y at c.in_ok-push_number.ensures)
    (c.in_ok-extend_from_slice.ensures.items))
    (rw c.as_slice.ensures at c.in_ok-extend_from_slice-2.ensures.items))
    (c.in_ok-extend_from_slice-3.ensures.items)
