use Rattle.picture.proofs.TextSteps.{more}
use Rattle.picture.proofs.policies_legend.push_ranks.Goals as goal

pub returns : goal.returns
returns c =
    let t = c.args.text.now.items in
    rw c.in-Some.is (more t _ _ (c.in_ok-push_slots.ensures)
    (c.in_ok-push_slots-2.ensures))
