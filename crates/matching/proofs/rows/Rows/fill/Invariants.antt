-- the ranks so far have rows
use Rattle.std.proofs.Common.{◌≡◌, ◌+◌}
use Rattle.matching.specs.Board.{graph_of}
use Rattle.matching.specs.Rows.{HasLast, IsRows}
use Rattle.matching.proofs.rows.Rows.fill.Given as goal

abbrev pub invariant-loop-rank : goal.invariant-loop-rank
invariant-loop-rank l = record {
  rows : IsRows l.ranks.ports (graph_of l.ranks) (λ r. r + 1) l.self;
  last : HasLast l.self;
  next : l.self.ranked ≡ l.rank;
}
