use Rattle.picture.proofs.TextSteps.{more}
use Rattle.picture.proofs.bars_text.push_bars.Goals as goal

pub returns : goal.returns
returns c =
    let t = c.args.text.now.items in
    more t _ _ (more t _ _ (c.in_ok-push_head.ensures) (c.in_ok-push_rows.ensures)) (c.in_ok-extend_from_slice.ensures.items)
