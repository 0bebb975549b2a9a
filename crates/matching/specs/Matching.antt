-- The grants that are kept, as they are for the flows of a line and the units that they have left.
use Rattle.std.specs.Prelude.{◌≡◌, ℕ, ◌+◌, ◌-◌, ◌^◌, ◌<◌, ◌≤◌, ◌==◌, ◌≢◌, ◌↔◌, if◌then◌else◌, List, Contains, length}
use Rattle.coflow_units.specs.declared.fabric.Flow.{Flow}
use Rattle.coflow_units.specs.Flows.{ingress_of}
use Rattle.coflow_units.specs.Grants.{IsGrants}
use Rattle.coflow_units.specs.Schedule.{holds}
use Rattle.matching.specs.declared.tables.Tables.{Tables}
use Rattle.matching.specs.Kept.{IsLined}
use Rattle.matching.specs.Board.{IsRanks, first_of, graph_of, no_rank}
use Rattle.matching.specs.Heads.{IsChain, IsHeads}
use Rattle.matching.specs.Listing.{HasListingRoom, IsListed, IsNothingListed}
use Rattle.matching.specs.Ranking.{IsRanking, number_of}
use Rattle.matching.specs.Rows.{IsRows}
use Rattle.matching.specs.Sound.{IsSound, left_at, rank_at}

-- for how many flows there is room
abbrev pub room_of : Tables → ℕ
room_of m = length m.left.items

-- how many ports each side has
abbrev pub ports_of : Tables → ℕ
ports_of m = m.ranks.ports

-- the granted flows, as they were listed last
abbrev pub listed_in : Tables → List ℕ
listed_in m = m.listing.flows.items

-- the ingress port of each of them
abbrev pub ports_listed_in : Tables → List ℕ
ports_listed_in m = m.listing.ports.items

-- the flow is granted now, and begins at the ingress
abbrev pub IsGrantedAt : Tables → ℕ → ℕ → Type 0
IsGrantedAt m ingress f =
    (ingress < ports_of m) × (rank_at m ingress < m.ranks.count) × (number_of m.ranks (rank_at m ingress) ≡ f)

-- the tables are those of these flows, in the order of the line, with these units left
pub record IsMatching (flows : List Flow) (line : List ℕ) (left : ℕ → ℕ) (m : Tables) : Type 0 where
  pub lined : IsLined flows line left m.ranks.ports (number_of m.ranks) (graph_of m.ranks)
  pub units : (r : ℕ) → r < m.ranks.count → left_at m r ≡ left (number_of m.ranks r)

-- the same, with nothing to repair: the listed flows are the grants, and they are those that are granted now
pub record IsSettled (flows : List Flow) (line : List ℕ) (left : ℕ → ℕ) (m : Tables) : Type 0 where
  pub matching : IsMatching flows line left m
  pub grants : IsGrants flows line left (listed_in m)
  pub at : (ingress f : ℕ) → IsGrantedAt m ingress f ↔ (Contains (listed_in m) f × (ingress_of flows f ≡ ingress))

-- one flow has so many units fewer, or none
abbrev pub IsLess : (ℕ → ℕ) → (ℕ → ℕ) → ℕ → ℕ → Type 0
IsLess left lower flow units = (f : ℕ) → lower f ≡ left f - (if f == flow then units else 0)

-- each of the granted flows has so many units fewer, or none
abbrev pub IsRunLess : (ℕ → ℕ) → (ℕ → ℕ) → List ℕ → ℕ → Type 0
IsRunLess left lower granted units = (f : ℕ) → lower f ≡ left f - (if holds granted f then units else 0)

-- the flows are ranked, nothing is granted, and every port waits
pub record IsBegun (flows : List Flow) (line : List ℕ) (left : ℕ → ℕ) (m : Tables) : Type 0 where
  pub ranking : IsRanking flows line left (length line) 0 m.ranks
  pub ranks : IsRanks m.ranks
  pub lefts : m.ranks.count ≤ length m.left.items
  pub units : (r : ℕ) → r < m.ranks.count → left_at m r ≡ left (number_of m.ranks r)
  pub heads : IsHeads m.ranks.ports (graph_of m.ranks) (λ r. r + 1) m.heads.least.items
  pub chain : IsChain (graph_of m.ranks) m.heads.next.items 0
  pub rows : IsRows m.ranks.ports (graph_of m.ranks) (λ r. r + 1) m.heads.rows
  pub start : m.settled ≡ 0
  pub size : length m.board.at.items ≡ m.ranks.ports + m.ranks.ports
  pub none : (p : ℕ) → p < m.ranks.ports + m.ranks.ports → rank_at m p ≡ no_rank
  pub room : m.board.waiting.room ≡ m.ranks.ports + m.ranks.ports
  pub all : (p : ℕ) → p < m.ranks.ports + m.ranks.ports → Contains m.board.waiting.ports p
  pub listed : IsNothingListed m.listing

-- one rank has lost so many units, or all that it had, and at other ports stands what stood there
pub record IsRankTaken (old new : Tables) (rank units : ℕ) : Type 0 where
  pub left : (r : ℕ) → left_at new r ≡ left_at old r - (if r == rank then units else 0)
  pub others : (p : ℕ) → p < old.ranks.ports → p ≢ first_of old.ranks rank → rank_at new p ≡ rank_at old p

-- no table has another length
pub record IsSameRoom (old new : Tables) : Type 0 where
  pub ports : new.ranks.ports ≡ old.ranks.ports
  pub ranked : length new.ranks.flows.items ≡ length old.ranks.flows.items
  pub lefts : length new.left.items ≡ length old.left.items
  pub nexts : length new.heads.next.items ≡ length old.heads.next.items
  pub listing : (n : ℕ) → HasListingRoom n old.listing → HasListingRoom n new.listing

-- each table has room for all flows and all ports
pub record HasRoom (m : Tables) : Type 0 where
  pub few_ports : ports_of m + ports_of m < 2 ^ 32
  pub few : room_of m < 2 ^ 32
  pub ranked : room_of m ≤ length m.ranks.flows.items
  pub nexts : room_of m ≤ length m.heads.next.items
  pub listing : HasListingRoom (ports_of m) m.listing

-- the tables fit one another
pub record IsWhole (m : Tables) : Type 0 where
  pub sound : IsSound m (λ p. Contains m.board.waiting.ports p)
  pub room : HasRoom m
  pub listing : IsListed m.ranks m.listing
