-- the flows at the ports from the present one on have lost their units
use Rattle.std.proofs.Common.{◌≡◌, ◌≤◌, Contains, length}
use Rattle.matching.specs.Matching.{IsSameRoom}
use Rattle.matching.specs.Sound.{IsSound}
use Rattle.matching.proofs.RunSteps.{IsRunTaken}
use Rattle.matching.proofs.SourceSteps.{IsAmongLast}
use Rattle.matching.proofs.tables.Tables.take_run.Given as goal

abbrev pub invariant-loop-source : goal.invariant-loop-source
invariant-loop-source l = record {
  low : l.source ≤ length l.fn.self.ranks.sources.ports;
  sound : IsSound l.self (λ p. Contains l.self.board.waiting.ports p);
  room : IsSameRoom l.fn.self l.self;
  ranks : l.self.ranks ≡ l.fn.self.ranks;
  listing : l.self.listing ≡ l.fn.self.listing;
  taken : IsRunTaken l.fn.self l.self (IsAmongLast l.fn.self.ranks.sources.ports l.source) l.units;
}

abbrev pub decreases-loop-source : goal.decreases-loop-source
decreases-loop-source l = l.source
