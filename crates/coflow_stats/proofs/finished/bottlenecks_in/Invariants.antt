-- the greatest loads so far
use Rattle.std.proofs.Common.{◌≡◌, ℕ, ◌<◌, get_or, length}
use Rattle.port_load.specs.Bottleneck.{IsBottleneck}
use Rattle.coflow_stats.proofs.finished.bottlenecks_in.Given as goal

abbrev pub invariant-loop-coflow : goal.invariant-loop-coflow
invariant-loop-coflow l = record {
  count : length l.bottlenecks.items ≡ l.coflow;
  greatest : (c : ℕ) → c < l.coflow → IsBottleneck l.loads c (get_or l.bottlenecks.items c 0);
}
