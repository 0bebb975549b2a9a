-- the lines of the pulls so far
use Rattle.std.proofs.Common.{◌≡◌, ◌++◌, map, take}
use Rattle.live_serving.specs.Ends.{pull_line}
use Rattle.live_serving.specs.Followed.{pulls_for}
use Rattle.live_serving.proofs.pulls.push_client.Given as goal

abbrev pub invariant-loop-pull : goal.invariant-loop-pull
invariant-loop-pull l = record {
  lines : l.lines.items ≡ l.fn.lines.items ++ map (pull_line l.table.ids) (pulls_for l.client (take l.pull-index l.pulls));
}
