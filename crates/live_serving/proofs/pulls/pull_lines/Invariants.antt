-- the lines of the clients so far
use Rattle.std.proofs.Common.{◌≡◌, map, flat_map}
use Rattle.std.specs.List.{range_with_len}
use Rattle.live_serving.specs.Ends.{pull_line}
use Rattle.live_serving.specs.Followed.{pulls_for}
use Rattle.live_serving.proofs.pulls.pull_lines.Given as goal

abbrev pub invariant-loop-before : goal.invariant-loop-before
invariant-loop-before l = record {
  lines : l.lines.items ≡ flat_map (λ k. map (pull_line l.table.ids) (pulls_for k l.pulls)) (range_with_len 1 l.before);
}
