use Rattle.picture.proofs.TextSteps.{more}
use Rattle.picture.proofs.policies_bars.push_bars.Goals as goal

pub returns : goal.returns
returns c =
    let t = c.args.text.now.items in
    more t _ _ (more t _ _ (c.in_ok-push_frame.ensures)
    (c.in_ok-push_part.ensures))
    (rw c.as_slice.ensures at c.in_ok-push_names.ensures)
