-- The list of what stands at the first ports.
use Rattle.std.specs.Prelude.{◌≡◌, ℕ, ◌<◌, ◌≤◌, ◌⊎◌, List, [], Contains, length, map, slice_index, vec_capacity}
use Rattle.coflow_units.specs.Flows.{IsDistinct}
use Rattle.matching.specs.declared.listing.Listed.{Listed}
use Rattle.matching.specs.declared.listing.Listing.{Listing}
use Rattle.matching.specs.declared.ranks.Ranks.{Ranks}
use Rattle.matching.specs.Board.{no_rank, first_of}
use Rattle.matching.specs.Ranking.{number_of}

-- at each of the first ports a rank stands that has it, or none
abbrev pub IsFirstSide : Ranks → List ℕ → Type 0
IsFirstSide ranks at = (p : ℕ) → p < length at →
    (slice_index at p ≡ no_rank) ⊎ ((slice_index at p < ranks.count) × (first_of ranks (slice_index at p) ≡ p))

-- each place of the lists has a port and the number of the rank that stands there; each port with a rank has a place
pub record IsShown (ranks : Ranks) (shown flows ports : List ℕ) : Type 0 where
  pub size : length ports ≡ length flows
  pub side : IsFirstSide ranks shown
  pub rises : (i j : ℕ) → i < j → j < length flows → slice_index flows i < slice_index flows j
  pub low : (k : ℕ) → k < length flows → slice_index ports k < length shown
  pub known : (k : ℕ) → k < length flows → slice_index shown (slice_index ports k) < ranks.count
  pub number : (k : ℕ) → k < length flows →
      number_of ranks (slice_index shown (slice_index ports k)) ≡ slice_index flows k
  pub all : (p : ℕ) → p < length shown → slice_index shown p < ranks.count →
      (k : ℕ) × (k < length flows) × (slice_index ports k ≡ p)

-- the lists have what is shown
abbrev pub IsListed : Ranks → Listing → Type 0
IsListed ranks l = IsShown ranks l.shown.items l.flows.items l.ports.items

-- there is room for the flows of so many ports
pub record HasListingRoom (n : ℕ) (l : Listing) : Type 0 where
  pub shown : length l.shown.items ≡ n
  pub flows : n ≤ vec_capacity l.flows
  pub ports : n ≤ vec_capacity l.ports
  pub pairs : n ≤ vec_capacity l.pairs

-- nothing is listed
pub record IsNothingListed (l : Listing) : Type 0 where
  pub shown : (p : ℕ) → p < length l.shown.items → slice_index l.shown.items p ≡ no_rank
  pub flows : l.flows.items ≡ []
  pub ports : l.ports.items ≡ []

-- the pairs are those of the ranks that stand at these ports, each once
pub record IsCollected (ranks : Ranks) (at : List ℕ) (ports : ℕ → Type 0) (pairs : List Listed) : Type 0 where
  pub port : (x : Listed) → Contains pairs x → ports x.port
  pub known : (x : Listed) → Contains pairs x → slice_index at x.port < ranks.count
  pub number : (x : Listed) → Contains pairs x → number_of ranks (slice_index at x.port) ≡ x.flow
  pub all : (p : ℕ) → ports p → slice_index at p < ranks.count →
      Contains pairs record { flow = number_of ranks (slice_index at p); port = p }
  pub once : IsDistinct (map (λ (x : Listed). x.flow) pairs)
