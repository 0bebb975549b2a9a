use Rattle.picture.proofs.TextSteps.{more}
use Rattle.picture.proofs.policies_legend.push_entry.Goals as goal

pub returns : goal.returns
returns c =
    let t = c.args.text.now.items in
    more t _ _ (more t _ _ (more t _ _ (more t _ _ (c.in_ok-push_number.ensures)
    (c.in_ok-extend_from_slice.ensures.items))
    (rw c.look_of.ensures at c.in_ok-extend_from_slice-2.ensures.items))
    (rw c.as_slice.ensures at c.in_ok-push_name.ensures))
    (c.in_ok-push_times.ensures)
