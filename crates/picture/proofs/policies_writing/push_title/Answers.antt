use Rattle.picture.proofs.TextSteps.{more}
use Rattle.picture.proofs.policies_writing.push_title.Goals as goal

pub returns : goal.returns
returns c =
    let t = c.args.text.now.items in
    more t _ _ (more t _ _ (c.in_ok-push_number.ensures)
    (c.in_ok-push_total.ensures))
    (c.in_ok-extend_from_slice.ensures.items)
