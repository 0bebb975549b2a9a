use Rattle.picture.proofs.TextSteps.{more}
use Rattle.picture.proofs.means.push_means.Goals as goal

pub returns : goal.returns
returns c =
    let t = c.args.text.now.items in
    more t _ _ (more t _ _ (c.in_ok-push_title.ensures)
    (c.in_ok-push_mean.ensures))
    (c.in_ok-push_mean-2.ensures)
