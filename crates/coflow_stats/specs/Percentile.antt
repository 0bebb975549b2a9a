-- Percentiles by the nearest rank.
use Rattle.std.specs.Prelude.{ℕ, ◌*◌, ◌<◌, ◌≤◌, nat_le, nat_lt, List, Contains, count_by, length}
use Rattle.std.specs.Int.{div_ceil}

-- the rank of so many per cent of n numbers, rounded up
abbrev pub rank : ℕ → ℕ → ℕ
rank percent n = div_ceil (percent * n) 100

-- The number of the list at the nearest rank: fewer numbers than the rank are below it, and as many or more are not
-- above it.
pub record IsPercentile (percent : ℕ) (xs : List ℕ) (v : ℕ) : Type 0 where
  pub among : Contains xs v
  pub below : count_by (λ x. nat_lt x v) xs < rank percent (length xs)
  pub up_to : rank percent (length xs) ≤ count_by (λ x. nat_le x v) xs
