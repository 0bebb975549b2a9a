-- A count of faults that rose.
use Rattle.std.specs.Prelude.{◌≡◌, ℕ, ◌+◌, ◌-◌, ◌^◌, ◌≤◌, min}

-- the count is greater than before, or stands at 2^64 - 1, where it stops
abbrev pub Rose : ℕ → ℕ → Type 0
Rose before now = min (before + 1) (2 ^ 64 - 1) ≤ now

-- the count is greater by one, or stands at 2^64 - 1, where it stops
abbrev pub RoseOnce : ℕ → ℕ → Type 0
RoseOnce before now = now ≡ min (before + 1) (2 ^ 64 - 1)
