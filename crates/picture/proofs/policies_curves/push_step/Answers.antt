use Rattle.picture.proofs.TextSteps.{more}
use Rattle.picture.proofs.policies_curves.push_step.Goals as goal

pub returns : goal.returns
returns c =
    let t = c.args.text.now.items in
    more t _ _ (rw c.log_x.ensures at c.in_ok-push_number.ensures)
    (rw c.completed_y.ensures at c.in_ok-push_number-2.ensures)
