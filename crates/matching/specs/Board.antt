-- The ranks that are granted, as the ports see them.
use Rattle.std.specs.Prelude.{◌≡◌, ◌≢◌, ℕ, ◌+◌, ◌-◌, ◌*◌, ◌^◌, ◌<◌, ◌≤◌, ◌⊎◌, List, Contains, length, slice_index}
use Rattle.std.specs.Prelude.{sum_by}
use Rattle.std.specs.List.{slice_index_or}
use Rattle.matching.specs.declared.ranks.Ranked.{Ranked}
use Rattle.matching.specs.declared.ranks.Ranks.{Ranks}
use Rattle.matching.specs.Kept.{Graph, Meets, Touches}

-- in place of a rank: there is none
abbrev pub no_rank : ℕ
no_rank = 4294967295

-- the flow at a rank
abbrev pub ranked_at : List Ranked → ℕ → Ranked
ranked_at ranked r = slice_index_or ranked r record { first = 0; second = 0; number = 0 }

-- the two ports of a rank
abbrev pub first_of : Ranks → ℕ → ℕ
first_of ranks r = (ranked_at ranks.flows.items r).first

abbrev pub second_of : Ranks → ℕ → ℕ
second_of ranks r = (ranked_at ranks.flows.items r).second

-- the ranks with their ports
abbrev pub graph_of : Ranks → Graph
graph_of ranks = record { count = ranks.count; first = λ r. first_of ranks r; second = λ r. second_of ranks r }

-- flows begin at ports of the first side and end at ports of the second
pub record IsGraph (ports : ℕ) (g : Graph) : Type 0 where
  pub few : g.count ≤ no_rank
  pub first : (r : ℕ) → r < g.count → g.first r < ports
  pub second_from : (r : ℕ) → r < g.count → ports ≤ g.second r
  pub second : (r : ℕ) → r < g.count → g.second r < ports + ports

-- the table has its ranks
pub record IsRanks (ranks : Ranks) : Type 0 where
  pub fits : ranks.count ≤ length ranks.flows.items
  pub graph : IsGraph ranks.ports (graph_of ranks)
  pub apart : (r s : ℕ) → r < s → s < ranks.count →
      (ranked_at ranks.flows.items r).number ≢ (ranked_at ranks.flows.items s).number
  pub source_room : ranks.sources.room ≡ ranks.ports
  pub sources : (r : ℕ) → r < ranks.count → Contains ranks.sources.ports (first_of ranks r)

-- the rank is granted
abbrev pub Stands : Graph → List ℕ → ℕ → Type 0
Stands g at r = (r < g.count) × (slice_index at (g.first r) ≡ r)

-- a rank that stands at one of its ports stands at the other
pub record IsBoard (ports : ℕ) (g : Graph) (at : List ℕ) : Type 0 where
  pub size : length at ≡ ports + ports
  pub own : (p : ℕ) → p < ports + ports →
      (slice_index at p ≡ no_rank) ⊎ ((slice_index at p < g.count) × Touches g p (slice_index at p))
  pub across : (r : ℕ) → r < g.count → slice_index at (g.first r) ≡ r → slice_index at (g.second r) ≡ r
  pub back : (r : ℕ) → r < g.count → slice_index at (g.second r) ≡ r → slice_index at (g.first r) ≡ r

-- what a rank weighs: four times as much as all later ones at its ports
abbrev pub weight : ℕ → ℕ → ℕ
weight count r = 2 ^ (2 * (count - r))

-- what all ports weigh, which rises whenever a rank goes in
abbrev pub total_weight : ℕ → List ℕ → ℕ
total_weight count at = sum_by (weight count) at

-- what stood at a port is gone, and its other port waits
pub record IsFreed (ports : ℕ) (g : Graph) (old new waits more : List ℕ) (port : ℕ) : Type 0 where
  pub gone : (p : ℕ) → p < ports + ports → slice_index old p ≡ slice_index old port → slice_index new p ≡ no_rank
  pub kept : (p : ℕ) → p < ports + ports → slice_index old p ≢ slice_index old port →
      slice_index new p ≡ slice_index old p
  pub weighs : total_weight g.count new
      + (weight g.count (slice_index old port) + weight g.count (slice_index old port)) ≡ total_weight g.count old + 2
  pub stays : (p : ℕ) → Contains waits p → Contains more p
  pub first : (r : ℕ) → r < g.count → slice_index old port ≡ r → (g.first r ≡ port) ⊎ Contains more (g.first r)
  pub second : (r : ℕ) → r < g.count → slice_index old port ≡ r → (g.second r ≡ port) ⊎ Contains more (g.second r)
  pub one_more : length more ≤ length waits + 1

-- a rank went in; what shared a port with it is gone, and its other port waits
pub record IsPlaced (g : Graph) (old new waits more : List ℕ) (rank : ℕ) : Type 0 where
  pub in' : Stands g new rank
  pub from : (r : ℕ) → Stands g new r → (r ≡ rank) ⊎ (Stands g old r × (Meets g r rank → ⊥))
  pub keeps : (r : ℕ) → Stands g old r → (Meets g r rank → ⊥) → Stands g new r
  pub stays : (p : ℕ) → Contains waits p → Contains more p
  pub freed_first : (s : ℕ) → Stands g old s → Meets g s rank → (g.first s ≡ g.first rank) ⊎ Contains more (g.first s)
  pub freed_second : (s : ℕ) → Stands g old s → Meets g s rank →
      (g.second s ≡ g.second rank) ⊎ Contains more (g.second s)
  pub rises : total_weight g.count old < total_weight g.count new
  pub two_more : length more ≤ length waits + 2

-- what is below the bound stands where it stood, and nothing else stands
pub record IsKeptBelow (old new : List ℕ) (bound : ℕ) : Type 0 where
  pub size : length new ≡ length old
  pub below : (p : ℕ) → p < length old → slice_index old p < bound → slice_index new p ≡ slice_index old p
  pub gone : (p : ℕ) → p < length old → bound ≤ slice_index old p → slice_index new p ≡ no_rank
