use Rattle.std.proofs.Common.{◌≡◌, ◌*◌, ◌≤◌}
use Rattle.release_bound.proofs.Bottlenecks.{arrivals_below}
use Rattle.release_bound.proofs.best.arrivals_cost.Given as goal

abbrev pub invariant-loop-coflow : goal.invariant-loop-coflow
invariant-loop-coflow l = record {
  total_is : l.total ≡ arrivals_below l.table l.weights l.arrivals l.coflow;
  within : l.total ≤ l.coflow * 18446744073709551616;
}
