use Rattle.std.proofs.Common.{◌≡◌, ◌++◌, []}
use Rattle.picture.specs.Svg.{head_text}
use Rattle.picture.proofs.TextSteps.{more}
use Rattle.picture.proofs.writing.write_picture.Goals as goal

pub returns : goal.returns
returns c =
    let head : c.push_ground.new.text.items ≡ [] ++ head_text c.args.picture.now = rw (c.new-text.ensures.items, c.curve_end.ensures.end) at c.in_ok-push_ground.ensures in
    record {
      text = more [] _ _ (more [] _ _ (more [] _ _ (more [] _ _ (more [] _ _ (more [] _ _ (more [] _ _ (more [] _ _ head c.in_ok-push_title.ensures) c.in_ok-push_bars.ensures)
          c.in_ok-push_marks.ensures) c.in_ok-push_curve.ensures) c.in_ok-push_means.ensures) c.in_ok-push_axes.ensures) c.in_ok-push_legend.ensures)
          c.in_ok-extend_from_slice.ensures.items;
    }
