-- Numbers at locations.
use Rattle.std.specs.Prelude.{◌≡◌, ◌≢◌, ℕ, ◌<◌, ◌≤◌, ◌==◌, List, count_by, filter, length, nat_lt, sum_by}
use Rattle.std.specs.List.{slice_index_or}
use Rattle.std.specs.List.Sorted.{IsNonDecreasingBy}
use Rattle.flow_table.specs.declared.spots.Spot.{Spot}

-- the spots at a location
abbrev pub spots_at : List Spot → ℕ → List Spot
spots_at spots location = filter (λ (s : Spot). s.location == location) spots

-- a sum over the numbers at a location
abbrev pub sum_at : (ℕ → ℕ) → List Spot → ℕ → ℕ
sum_at f spots location = sum_by (λ (s : Spot). f s.number) (spots_at spots location)

-- numbers ascend, and may be equal
abbrev pub IsAscending : List Spot → Type 0
IsAscending spots = IsNonDecreasingBy (λ (s : Spot). s.number) spots

-- the spots stand by location, and those of one location by number
pub record IsByLocation (spots : List Spot) : Type 0 where
  pub locations : IsNonDecreasingBy (λ (s : Spot). s.location) spots
  pub numbers : (location : ℕ) → IsAscending (spots_at spots location)

-- From the first index up to the end the spots are at the location, and the next one is not.
pub record EndsAt (spots : List Spot) (location first end : ℕ) : Type 0 where
  pub bound : (first ≤ end) × (end ≤ length spots)
  pub own : (s : ℕ) (d : Spot) → first ≤ s → s < end → (slice_index_or spots s d).location ≡ location
  pub last : (d : Spot) → end < length spots → (slice_index_or spots end d).location ≢ location

-- for each of the rests, the places that come below it
abbrev pub pairs : List Spot → List Spot → ℕ
pairs places rests = sum_by (λ (rest : Spot). count_by (λ (place : Spot). nat_lt place.number rest.number) places) rests
