-- Where two lists part.
use Rattle.std.specs.Prelude.{◌≡◌, ◌≢◌, ℕ, ◌+◌, ◌-◌, ◌<◌, ◌≤◌, List, [], length, slice_get, slice_index}
use Rattle.std.specs.List.{slice_index_or}

-- the lists are the same up to this index, where they differ or one of them has ended; indices count from 0
pub record IsPartedAt {X : Type 0} (stated real : List X) (index : ℕ) : Type 0 where
  pub before : (k : ℕ) → k < index → slice_get stated k ≡ slice_get real k
  pub parted : slice_get stated index ≢ slice_get real index

-- the place, counted from 1, is the first at which the orders differ, or the one past the end of the shorter
pub record IsFirstPlace (stated real : List ℕ) (place : ℕ) : Type 0 where
  pub counted : 1 ≤ place
  pub in_stated : place ≤ length stated + 1
  pub in_real : place ≤ length real + 1
  pub before : (k : ℕ) → k + 1 < place → slice_index stated k ≡ slice_index real k
  pub parted : place ≤ length stated → place ≤ length real →
      slice_index stated (place - 1) ≢ slice_index real (place - 1)

-- the version, counted from 1, is the first whose order is not the real one, or which one side lacks; the place is the
-- first at which the two orders part, where a version that one side lacks counts as an empty order
pub record IsFirstWrongOrder (stated real : List (List ℕ)) (version place : ℕ) : Type 0 where
  pub counted : 1 ≤ version
  pub parted : IsPartedAt stated real (version - 1)
  pub first : IsFirstPlace (slice_index_or stated (version - 1) []) (slice_index_or real (version - 1) []) place
