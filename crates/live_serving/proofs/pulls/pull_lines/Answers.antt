use Rattle.std.proofs.Common.{map}
use Rattle.live_serving.specs.Ends.{pull_line}
use Rattle.live_serving.specs.Followed.{pulls_for}
use Rattle.live_serving.proofs.PullLines.{clients_next}
use Rattle.live_serving.proofs.pulls.pull_lines.Goals as goal

pub loop-before-preserved : goal.loop-before-preserved
loop-before-preserved c =
    let at = c.loop-before in record {
      lines = clients_next (λ k. map (pull_line c.args.table.now.ids) (pulls_for k c.args.pulls.now)) at.before at.lines.items c.push_client.new.lines.items at.invariant.lines
          c.in_ok-push_client.ensures;
    }
