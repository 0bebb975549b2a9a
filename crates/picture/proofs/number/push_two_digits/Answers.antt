use Rattle.picture.proofs.TextSteps.{more}
use Rattle.picture.proofs.number.push_two_digits.Goals as goal

pub returns : goal.returns
returns c =
    let t = c.args.text.now.items in
    more t _ _ (more t _ _ (c.in_ok-push_total.ensures)
    (c.in_ok-push_total-2.ensures))
    (c.in_ok-push_total-3.ensures)
