use Rattle.picture.proofs.TextSteps.{more}
use Rattle.picture.proofs.run_writing.push_legend.Goals as goal

pub returns : goal.returns
returns c =
    let t = c.args.text.now.items in
    more t _ _ (more t _ _ (c.in_ok-push_key.ensures)
    (c.in_ok-push_key-2.ensures))
    (c.in_ok-push_ticks_key.ensures)
