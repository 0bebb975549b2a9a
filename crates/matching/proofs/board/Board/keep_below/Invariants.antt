-- the ports so far keep what is below the bound, and no more
use Rattle.std.proofs.Common.{◌≡◌, ◌<◌, ◌≤◌, ℕ, length, get_or}
use Rattle.matching.specs.Board.{no_rank}
use Rattle.matching.proofs.board.Board.keep_below.Given as goal

abbrev pub invariant-loop-port : goal.invariant-loop-port
invariant-loop-port l = record {
  waiting : l.self.waiting ≡ l.fn.self.waiting;
  size : length l.self.at.items ≡ length l.fn.self.at.items;
  below : (p : ℕ) → get_or l.fn.self.at.items p 0 < l.bound → get_or l.self.at.items p 0 ≡ get_or l.fn.self.at.items p 0;
  gone : (p : ℕ) → p < l.port → l.bound ≤ get_or l.fn.self.at.items p 0 → get_or l.self.at.items p 0 ≡ no_rank;
  rest : (p : ℕ) → l.port ≤ p → get_or l.self.at.items p 0 ≡ get_or l.fn.self.at.items p 0;
}
