-- all stays sound, and the budget falls
use Rattle.std.proofs.Common.{◌≡◌, Contains}
use Rattle.matching.specs.Sound.{IsSound, budget}
use Rattle.matching.proofs.tables.Tables.look_until_none_waits.Given as goal

abbrev pub invariant-loop-port : goal.invariant-loop-port
invariant-loop-port l = record {
  sound : IsSound l.self (λ p. Contains l.self.board.waiting.ports p);
  ranks : l.self.ranks ≡ l.fn.self.ranks;
  left : l.self.left ≡ l.fn.self.left;
  heads : l.self.heads ≡ l.fn.self.heads;
  listing : l.self.listing ≡ l.fn.self.listing;
  settled : l.self.settled ≡ 0;
}

abbrev pub decreases-loop-port : goal.decreases-loop-port
decreases-loop-port l = budget l.self
