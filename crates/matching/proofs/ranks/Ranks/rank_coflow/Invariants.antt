-- the flows below the number were looked at
use Rattle.std.proofs.Common.{◌≡◌, ℕ, List, length, get_or}
use Rattle.matching.specs.Ranking.{IsCoflowAt, IsRanking}
use Rattle.matching.proofs.ranks.Ranks.rank_coflow.Given as goal

abbrev pub invariant-loop-number : goal.invariant-loop-number
invariant-loop-number l = record {
  ports : l.self.ports ≡ l.fn.self.ports;
  source_room : l.self.sources.room ≡ l.fn.self.sources.room;
  len : length l.self.flows.items ≡ length l.fn.self.flows.items;
  ranking : (line : List ℕ) (k : ℕ) → IsCoflowAt l.flows line k l.first l.end → IsRanking l.flows line (λ f. get_or l.left f 0) k 0 l.fn.self →
      IsRanking l.flows line (λ f. get_or l.left f 0) k l.number l.self;
}
