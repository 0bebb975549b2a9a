-- the sum so far, which fits
use Rattle.std.proofs.Common.{◌≡◌, ◌*◌, ◌≤◌, take}
use Rattle.coflow_stats.specs.Stats.{weighted_arrivals}
use Rattle.coflow_stats.proofs.stats.weighted_arrivals.Given as goal

abbrev pub invariant-loop-coflow : goal.invariant-loop-coflow
invariant-loop-coflow l = record {
  total_is : l.total ≡ weighted_arrivals (take l.coflow-index l.coflows);
  small : l.total ≤ l.coflow-index * 79228162514264337593543950336;
}
