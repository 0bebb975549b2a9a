-- How many units a wire in memory accepts, and when it fails.
use Rattle.std.specs.Prelude.{ℕ, ◌-◌, if◌then◌else◌, nat_lt, Option, Some, None, min}

-- the units before the one that fails: a number counted from 1, and 0 stands for none that fails
abbrev pub units_before : Option ℕ → Option ℕ
units_before None = None
units_before (Some number) = if nat_lt 0 number then Some (number - 1) else None

-- how many of the units are accepted, where there is room for a run
abbrev pub front_before : Option ℕ → ℕ → ℕ
front_before None length = length
front_before (Some k) length = min k length

-- the units before the one that fails, after so many were sent; it fails once
abbrev pub still_before : Option ℕ → ℕ → Option ℕ
still_before None length = None
still_before (Some k) length = if nat_lt k length then None else Some (k - length)
