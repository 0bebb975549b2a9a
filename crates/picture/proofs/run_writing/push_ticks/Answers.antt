use Rattle.picture.proofs.TextSteps.{more}
use Rattle.picture.proofs.run_writing.push_ticks.Goals as goal

pub returns : goal.returns
returns c =
    let t = c.args.text.now.items in
    more t _ _ (more t _ _ (c.in_ok-extend_from_slice.ensures.items)
    (c.in_ok-push_lines.ensures))
    (c.in_ok-extend_from_slice-2.ensures.items)
