use Rattle.picture.proofs.TextSteps.{more}
use Rattle.picture.proofs.policies_bars.push_bar.Goals as goal

pub returns : goal.returns
returns c =
    let t = c.args.text.now.items in
    more t _ _ (more t _ _ (more t _ _ (more t _ _ (rw c.bar_y.ensures.y at c.in_ok-push_number.ensures)
    (rw c.ratio_width-width.ensures.width at c.in_ok-push_number-2.ensures))
    (c.in_ok-extend_from_slice.ensures.items))
    (rw c.look_of.ensures at c.in_ok-extend_from_slice-2.ensures.items))
    (c.in_ok-push_ratio.ensures)
