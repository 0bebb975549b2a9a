-- The first greatest of some totals, and bounds of their blocks of 64.
use Rattle.std.specs.Prelude.{◌≡◌, ℕ, ◌/◌, ◌<◌, ◌≤◌, ◌⊎◌, List, length, slice_index}
use Rattle.coflow_units.specs.declared.fabric.Side.{Side}
use Rattle.port_load.specs.LoadTable.{LoadTable, total_at}

-- the total at k is less than that at best, or the same and no earlier
abbrev pub IsBehind : List ℕ → ℕ → ℕ → Type 0
IsBehind totals best k = (slice_index totals k < slice_index totals best)
    ⊎ ((slice_index totals k ≡ slice_index totals best) × (best ≤ k))

-- the first greatest of the totals from one place on, below another
pub record IsFirstGreatest (totals : List ℕ) (start end best : ℕ) : Type 0 where
  pub after : start ≤ best
  pub before : best < end
  pub greatest : (k : ℕ) → start ≤ k → k < end → IsBehind totals best k

-- no total is above the bound of its block
abbrev pub AreBounds : List ℕ → List ℕ → Type 0
AreBounds totals bounds = (k : ℕ) → k < length totals → k / 64 < length bounds →
    slice_index totals k ≤ slice_index bounds (k / 64)

-- the same of the totals of the ports of a side
abbrev pub IsBounded : LoadTable → Side → List ℕ → Type 0
IsBounded t side bounds = (number : ℕ) → number < t.ports → number / 64 < length bounds →
    total_at t (record { side = side; number = number }) ≤ slice_index bounds (number / 64)
