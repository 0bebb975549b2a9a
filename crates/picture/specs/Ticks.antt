-- The round numbers at an axis.
use Rattle.std.specs.Prelude.{ℕ, ◌+◌, ◌*◌, ◌-◌, ◌/◌, leb, suc, zero, List, if◌then◌else◌}
use Rattle.std.specs.List.{range_with_len}
use Rattle.std.specs.Int.{div_ceil}

-- The first of a power of ten, twice and five times it, and so on with ten times the power, of which six are no fewer
-- than `count`. The search ends after so many powers.
unfoldable pub step_from : ℕ → ℕ → ℕ → ℕ
step_from zero power count = power
step_from (suc k) power count = if leb count (6 * power) then power
    else (if leb count (12 * power) then 2 * power
    else (if leb count (30 * power) then 5 * power else step_from k (power * 10) count))

-- the step of an axis with so many places: 1, 2 or 5 times a power of ten, so that at most six steps are on it
abbrev pub step_of : ℕ → ℕ
step_of count = step_from 13 1 count

-- the numbers whose multiples by the step lie from `first` to `last`
abbrev pub multiples : ℕ → ℕ → ℕ → List ℕ
multiples step first last = range_with_len (div_ceil first step) (last / step + 1 - div_ceil first step)
