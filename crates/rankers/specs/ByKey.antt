-- Numbers by a key, and those of one key by number.
use Rattle.std.specs.Prelude.{ℕ, zero, suc, ◌+◌, ◌*◌, ◌^◌, if◌then◌else◌, nat_lt, List, [], ◌∷◌}
use Rattle.std.specs.List.{range_with_len, slice_index_or}
use Rattle.class_rates.specs.Classes.{IsClassOrder}

-- the numbers below n by their keys, and those of one key by number: the class order of which the keys are the classes
abbrev pub IsByKey : (ℕ → ℕ) → ℕ → List ℕ → Type 0
IsByKey key n order = IsClassOrder (range_with_len 0 n) key order

-- a number put before the first one whose key is greater than its own
abbrev pub put_by_key : (ℕ → ℕ) → ℕ → List ℕ → List ℕ
put_by_key key c [] = c ∷ []
put_by_key key c (x ∷ xs) = if nat_lt (key c) (key x) then c ∷ x ∷ xs else x ∷ put_by_key key c xs

-- the list of these numbers
abbrev pub by_key : (ℕ → ℕ) → ℕ → List ℕ
by_key key zero = []
by_key key (suc n) = put_by_key key n (by_key key n)

-- the key of a number in a list of keys; a number past the end has 0
abbrev pub key_in : List ℕ → ℕ → ℕ
key_in keys number = slice_index_or keys number 0

-- a number that compares as the key, and then as the number below 2^32
abbrev pub key_then_number : ℕ → ℕ → ℕ
key_then_number key number = key * 2 ^ 32 + number

-- a number that compares as the key, and then as the number of the coflow below 2^12
abbrev pub key_then_coflow : ℕ → ℕ → ℕ
key_then_coflow key coflow = key * 2 ^ 12 + coflow
