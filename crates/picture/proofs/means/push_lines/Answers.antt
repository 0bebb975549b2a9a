use Rattle.picture.proofs.TextSteps.{more}
use Rattle.picture.proofs.means.push_lines.Goals as goal

pub returns : goal.returns
returns c =
    let t = c.args.text.now.items in
    let line = rw (c.dashes_of.ensures, c.mean_x-x.ensures, c.total_of.ensures, c.curve_top-top.ensures.top, c.curve_end.ensures.end) at c.in_ok-push_line.ensures in
    let piece = rw (c.dashes_of-2.ensures, c.curve_top-top.ensures.top, c.drop_of-drop.ensures.drop) at c.in_ok-push_line-2.ensures in
    more t _ _ (more t _ _ (more t _ _ (more t _ _ (more t _ _ line piece)
    (rw (c.curve_top-top.ensures.top, c.drop_of-drop.ensures.drop) at c.in_ok-push_number.ensures))
    (c.in_ok-extend_from_slice.ensures.items))
    (rw c.words_of.ensures at c.in_ok-extend_from_slice-2.ensures.items))
    (c.in_ok-extend_from_slice-3.ensures.items)
