-- Kept grants with their tables.
use Rattle.std.specs.Prelude.{◌≡◌, ℕ, ◌+◌, ◌-◌, ◌*◌, ◌^◌, ◌<◌, ◌≤◌, length, slice_index}
use Rattle.matching.specs.declared.tables.Tables.{Tables}
use Rattle.matching.specs.Kept.{Graph, IsCovered, IsKept}
use Rattle.matching.specs.Board.{graph_of, IsRanks, IsBoard, Stands, total_weight}
use Rattle.matching.specs.Heads.{IsHeads, IsChain, IsOwingBehind}
use Rattle.matching.specs.Rows.{IsRows}

-- the units that a rank has left
abbrev pub left_at : Tables → ℕ → ℕ
left_at m r = slice_index m.left.items r

-- the rank that is granted at a port
abbrev pub rank_at : Tables → ℕ → ℕ
rank_at m port = slice_index m.board.at.items port

-- a granted rank is the least of its pair of ports that owes
abbrev pub IsFirstOfPair : Graph → (ℕ → ℕ) → (ℕ → Type 0) → Type 0
IsFirstOfPair g left granted = (r s : ℕ) → granted r → s < g.count → 0 < left s → g.first s ≡ g.first r →
    g.second s ≡ g.second r → r ≤ s

-- below a bound each rank that owes is covered
abbrev pub IsSettledBelow : Graph → (ℕ → ℕ) → (ℕ → Type 0) → ℕ → Type 0
IsSettledBelow g left granted bound = (r : ℕ) → r < bound → r < g.count → 0 < left r → IsCovered g granted r

-- the tables fit the ranks, and the granted ranks are kept with the ports that wait
pub record IsSound (m : Tables) (waits : ℕ → Type 0) : Type 0 where
  pub ranks : IsRanks m.ranks
  pub lefts : m.ranks.count ≤ length m.left.items
  pub heads : IsHeads m.ranks.ports (graph_of m.ranks) (left_at m) m.heads.least.items
  pub chain : IsChain (graph_of m.ranks) m.heads.next.items 0
  pub behind : IsOwingBehind (graph_of m.ranks) (left_at m)
  pub rows : IsRows m.ranks.ports (graph_of m.ranks) (left_at m) m.heads.rows
  pub board : IsBoard m.ranks.ports (graph_of m.ranks) m.board.at.items
  pub room : m.board.waiting.room ≡ m.ranks.ports + m.ranks.ports
  pub kept : IsKept (graph_of m.ranks) (left_at m) (Stands (graph_of m.ranks) m.board.at.items) waits
  pub top : IsFirstOfPair (graph_of m.ranks) (left_at m) (Stands (graph_of m.ranks) m.board.at.items)
  pub settled : IsSettledBelow (graph_of m.ranks) (left_at m) (Stands (graph_of m.ranks) m.board.at.items) m.settled

-- how many looks the grants can still take, at most
abbrev pub budget : Tables → ℕ
budget m =
    2 * ((m.ranks.ports + m.ranks.ports) * 2 ^ (2 * m.ranks.count) - total_weight m.ranks.count m.board.at.items)
    + length m.board.waiting.ports
