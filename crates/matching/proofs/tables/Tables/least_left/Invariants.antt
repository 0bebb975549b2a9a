-- the least at the ports so far
use Rattle.matching.specs.Board.{graph_of}
use Rattle.matching.specs.Sound.{left_at}
use Rattle.matching.proofs.RunSteps.{IsLeastUpto}
use Rattle.matching.proofs.SourceSteps.{IsAmongFirst}
use Rattle.matching.proofs.tables.Tables.least_left.Given as goal

abbrev pub invariant-loop-ingress : goal.invariant-loop-ingress
invariant-loop-ingress l =
    IsLeastUpto (graph_of l.self.ranks) (left_at l.self) l.self.board.at.items (IsAmongFirst l.self.ranks.sources.ports l.ingress-index) l.least
