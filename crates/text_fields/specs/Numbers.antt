-- Numbers of fields.
use Rattle.std.specs.Prelude.{◌≡◌, ℕ, ◌-◌, ◌^◌, ◌&&◌, Bool, true, false, Option, Some, None, length, min, nat_le}
use Rattle.std.specs.Prelude.{nat_lt, ◌<◌, All, List}
use Rattle.std.specs.List.{list_all}
use Rattle.std.specs.Str.Parse.{digits_value}
use Rattle.text_fields.specs.Fields.{Text}

-- The greatest number that is told.
abbrev pub most : ℕ
most = 2 ^ 64 - 1

-- The number, or the greatest that is told where it is greater.
abbrev pub capped : ℕ → ℕ
capped n = min n most

-- A digit is one of the bytes 0 to 9.
abbrev pub is_digit : ℕ → Bool
is_digit b = nat_le 48 b && nat_le b 57

-- A number is one or more decimal digits. Leading zeros count nothing, and it may be of any size.
abbrev pub is_number : Text → Bool
is_number field = nat_lt 0 (length field) && list_all is_digit field

-- The value of decimal digits.
abbrev pub number : Text → ℕ
number field = digits_value 10 field

-- Ids have 32 bits.
abbrev pub AreIds : List ℕ → Type 0
AreIds ids = All (λ n. n < 2 ^ 32) ids

-- The field is no number, or n is its value, capped.
abbrev pub IsNumberOf : Text → Option ℕ → Type 0
IsNumberOf field None = is_number field ≡ false
IsNumberOf field (Some n) = (is_number field ≡ true) × (n ≡ capped (number field))
