use Rattle.picture.proofs.TextSteps.{more}
use Rattle.picture.proofs.run_title.push_words.Goals as goal

pub returns : goal.returns
returns c =
    let t = c.args.text.now.items in
    more t _ _ (more t _ _ (c.in_ok-push_total.ensures)
    (c.in_ok-push_total-2.ensures))
    (c.in_ok-push_ratio.ensures)
