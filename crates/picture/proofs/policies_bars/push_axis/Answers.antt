use Rattle.picture.proofs.TextSteps.{more}
use Rattle.picture.proofs.policies_bars.push_axis.Goals as goal

pub returns : goal.returns
returns c =
    let t = c.args.text.now.items in
    more t _ _ (rw c.octaves.ensures.count at c.in_ok-push_ticks.ensures)
    (c.in_ok-extend_from_slice.ensures.items)
