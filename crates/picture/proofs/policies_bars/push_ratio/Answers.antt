use Rattle.picture.proofs.TextSteps.{more}
use Rattle.picture.proofs.policies_bars.push_ratio.Goals as goal

pub returns : goal.returns
returns c =
    let t = c.args.text.now.items in
    more t _ _ (more t _ _ (rw c.ratio_width.ensures.width at c.in_ok-push_label_place.ensures)
    (rw c.hundredths.ensures at c.in_ok-push_two_digits.ensures))
    (c.in_ok-extend_from_slice.ensures.items)
