use Rattle.std.proofs.Common.{◌≡◌, ◌++◌, []}
use Rattle.picture.specs.Svg.{ground_text}
use Rattle.picture.proofs.TextSteps.{more}
use Rattle.picture.proofs.policies_writing.write_policies.Goals as goal

pub returns : goal.returns
returns c =
    let head : c.push_ground.new.text.items ≡ [] ++ ground_text 600 = rw c.new-text.ensures.items at c.in_ok-push_ground.ensures in
    record {
      text = more [] _ _ (more [] _ _ (more [] _ _ (more [] _ _ (more [] _ _ head c.in_ok-push_title.ensures) c.in_ok-push_bars.ensures) c.in_ok-push_curves.ensures)
          c.in_ok-push_legend.ensures) c.in_ok-extend_from_slice.ensures.items;
    }
