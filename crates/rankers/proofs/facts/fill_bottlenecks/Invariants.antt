-- the greatest loads of the coflows so far are written
use Rattle.std.proofs.Common.{◌≡◌, ℕ, ◌<◌, get_or, length}
use Rattle.port_load.specs.Bottleneck.{IsBottleneck}
use Rattle.rankers.proofs.facts.fill_bottlenecks.Given as goal

abbrev pub invariant-loop-coflow : goal.invariant-loop-coflow
invariant-loop-coflow l = record {
  count : length l.bottlenecks ≡ length l.fn.bottlenecks;
  greatest : (c : ℕ) → c < l.coflow → IsBottleneck l.loads c (get_or l.bottlenecks c 0);
}
