use Rattle.picture.proofs.TextSteps.{more}
use Rattle.picture.proofs.policies_curves.push_axis.Goals as goal

pub returns : goal.returns
returns c =
    let t = c.args.text.now.items in
    more t _ _ (c.in_ok-push_ticks.ensures)
    (c.in_ok-extend_from_slice.ensures.items)
