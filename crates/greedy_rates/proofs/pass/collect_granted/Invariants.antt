-- the flows at the ingress ports so far
use Rattle.std.proofs.Common.{◌≡◌, ◌≤◌, length, take}
use Rattle.greedy_rates.specs.Pass.{IsListing}
use Rattle.greedy_rates.proofs.pass.collect_granted.Given as goal

abbrev pub invariant-loop-stands : goal.invariant-loop-stands
invariant-loop-stands l = record {
  length_is : length l.listed ≡ length l.fn.listed;
  count_fits : l.count ≤ l.stands-index;
  listing : IsListing l.at l.stands-index (take l.count l.listed);
}
