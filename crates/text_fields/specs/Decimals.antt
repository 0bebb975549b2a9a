-- Decimals of fields.
use Rattle.std.specs.Prelude.{◌≡◌, ℕ, ◌+◌, ◌*◌, ◌^◌, ◌==◌, ◌&&◌, ◌||◌, Bool, true, false, not, ◌++◌, Option, Some, None}
use Rattle.std.specs.Prelude.{length, is_some, position, ◌≤◌, ◌<◌}
use Rattle.std.specs.List.{before_first, after_first}
use Rattle.std.specs.Int.{div_ceil}
use Rattle.text_fields.specs.Fields.{Text}
use Rattle.text_fields.specs.Numbers.{capped, is_number, number}

-- The decimal point.
abbrev pub is_point : ℕ → Bool
is_point b = b == 46

-- What stands before the first point, or the whole field where there is none.
abbrev pub whole_part : Text → Text
whole_part field = before_first is_point field

-- What stands behind the first point, or nothing where there is none.
abbrev pub fraction_part : Text → Text
fraction_part field = after_first is_point field

-- A decimal is a number, or a number, a point and one or more digits.
abbrev pub is_decimal : Text → Bool
is_decimal field = is_number (whole_part field) &&
    (not (is_some (position is_point field)) || is_number (fraction_part field))

-- The decimal times k, rounded up.
abbrev pub scaled_up : ℕ → Text → ℕ
scaled_up k field = div_ceil (number (whole_part field ++ fraction_part field) * k) (10 ^ length (fraction_part field))

-- The field is no decimal, or these are its millionths and its wholes, each rounded up and capped.
abbrev pub IsDecimalOf : {V : Type 0} → (V → ℕ) → (V → ℕ) → Text → Option V → Type 0
IsDecimalOf millionths wholes field None = is_decimal field ≡ false
IsDecimalOf millionths wholes field (Some v) = (is_decimal field ≡ true)
    × (millionths v ≡ capped (scaled_up 1000000 field)) × (wholes v ≡ capped (scaled_up 1 field))

-- The value is the least number of millionths that is not below the digits behind a point.
abbrev pub IsFraction : Text → ℕ → Type 0
IsFraction digits value = (number digits * 1000000 ≤ value * 10 ^ length digits) ×
    (value * 10 ^ length digits < number digits * 1000000 + 10 ^ length digits)
