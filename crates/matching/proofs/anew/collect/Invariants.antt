-- the pairs of the ports so far
use Rattle.std.proofs.Common.{◌<◌, ◌≤◌}
use Rattle.std.specs.Prelude.{vec_capacity, vec_len}
use Rattle.matching.specs.Listing.{IsCollected}
use Rattle.matching.proofs.anew.collect.Given as goal

abbrev pub invariant-loop-port : goal.invariant-loop-port
invariant-loop-port l = record {
  room : vec_capacity l.fn.pairs ≤ vec_capacity l.pairs;
  within : vec_len l.pairs ≤ l.port;
  collected : IsCollected l.ranks l.at (λ p. p < l.port) l.pairs.items;
}
