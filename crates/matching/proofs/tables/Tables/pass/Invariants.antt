-- the rows so far were passed
use Rattle.std.proofs.Common.{◌≡◌, ◌+◌, length}
use Rattle.matching.specs.Pass.{IsPassingIn}
use Rattle.matching.proofs.PassSteps.{IsReady}
use Rattle.matching.proofs.tables.Tables.pass.Given as goal

abbrev pub invariant-loop-row : goal.invariant-loop-row
invariant-loop-row l = record {
  passing : IsPassingIn l.self l.free l.row;
  room : l.self.board.waiting.room ≡ l.self.ranks.ports + l.self.ranks.ports;
  len : length l.free ≡ 32;
  ready : IsReady l.self.ranks l.self.left.items l.self.heads;
  ranks : l.self.ranks ≡ l.fn.self.ranks;
  left : l.self.left ≡ l.fn.self.left;
  heads : l.self.heads ≡ l.fn.self.heads;
  listing : l.self.listing ≡ l.fn.self.listing;
  settled : l.self.settled ≡ l.fn.self.settled;
}
