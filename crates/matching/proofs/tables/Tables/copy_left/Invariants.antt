-- what the ranks so far have left
use Rattle.std.proofs.Common.{◌≡◌, ◌<◌, ℕ, length, get_or}
use Rattle.matching.specs.Ranking.{number_of}
use Rattle.matching.proofs.tables.Tables.copy_left.Given as goal

abbrev pub invariant-loop-rank : goal.invariant-loop-rank
invariant-loop-rank l = record {
  ranks : l.self.ranks ≡ l.fn.self.ranks;
  heads : l.self.heads ≡ l.fn.self.heads;
  board : l.self.board ≡ l.fn.self.board;
  listing : l.self.listing ≡ l.fn.self.listing;
  len : length l.self.left.items ≡ length l.fn.self.left.items;
  left : (r : ℕ) → r < l.rank → get_or l.self.left.items r 0 ≡ get_or l.left (number_of l.fn.self.ranks r) 0;
}
