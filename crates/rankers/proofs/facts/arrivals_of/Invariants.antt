use Rattle.std.proofs.Common.{◌≡◌, ◌<◌, take}
use Rattle.std.specs.Prelude.{All}
use Rattle.rankers.proofs.facts.arrivals_of.Given as goal

abbrev pub invariant-loop-coflow : goal.invariant-loop-coflow
invariant-loop-coflow l = record {
  taken : l.arrivals.items ≡ take l.coflow l.table.arrivals;
  small : All (λ a. a < 4294967296) l.arrivals.items;
}
