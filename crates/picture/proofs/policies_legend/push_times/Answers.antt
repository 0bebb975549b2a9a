use Rattle.picture.proofs.TextSteps.{more}
use Rattle.picture.proofs.policies_legend.push_times.Goals as goal

pub returns : goal.returns
returns c =
    let t = c.args.text.now.items in
    more t _ _ (rw (c.tenths_up.ensures, c.from.ensures) at c.in_ok-push_mean.ensures)
    (c.in_ok-push_ranks.ensures)
