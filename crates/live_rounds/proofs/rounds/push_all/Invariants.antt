-- those so far stand behind the pulls
use Rattle.std.proofs.Common.{◌≡◌, ◌++◌, take, vec_capacity}
use Rattle.live_rounds.proofs.rounds.push_all.Given as goal

abbrev pub invariant-loop-pull : goal.invariant-loop-pull
invariant-loop-pull l = record {
  items : l.pulls.items ≡ l.fn.pulls.items ++ take l.pull-index l.more;
  room : vec_capacity l.pulls ≡ vec_capacity l.fn.pulls;
}
