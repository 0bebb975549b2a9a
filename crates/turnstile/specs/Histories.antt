-- What a caller knows of a list of entries that only grows.
use Rattle.std.specs.List.{filter}
use Rattle.std.specs.Prelude.{◌==◌, ◌≡◌, ◌≢◌, ◌⊎◌, ◌≤◌, ℕ, List, [], ◌∷◌, ◌++◌, All, cond, nat_lt, length}

-- the list begins with what was seen
abbrev pub Begins : {E : Type 0} → List E → List E → Type 0
Begins {E} list seen = (rest : List E) × (list ≡ seen ++ rest)

-- of two beginnings of one list, the longer
abbrev pub longer : {E : Type 0} → List E → List E → List E
longer xs ys = cond (nat_lt (length xs) (length ys)) ys xs

module _ {E : Type 0} (by : E → ℕ) where
  -- the entries that the caller of this number made
  abbrev pub made_by : ℕ → List E → List E
  made_by number entries = filter (λ e. by e == number) entries

  -- the caller of this number made none of the entries
  abbrev pub NoneBy : ℕ → List E → Type 0
  NoneBy number entries = All (λ e. by e ≢ number) entries

  -- the list begins with what was seen, and in the rest there is no entry of this number: all its entries are among
  -- those that were seen
  abbrev pub GoesOn : List E → ℕ → List E → Type 0
  GoesOn list number seen = (rest : List E) × (list ≡ seen ++ rest) × NoneBy number rest

  -- the list is the one that was seen, or that list with one entry of this number
  abbrev pub AddsAtMostOne : List E → ℕ → List E → Type 0
  AddsAtMostOne list number seen = (list ≡ seen) ⊎ ((e : E) × (by e ≡ number) × (list ≡ seen ++ e ∷ []))

  -- no entry has a number above this one
  abbrev pub NoneAbove : ℕ → List E → Type 0
  NoneAbove most entries = All (λ e. by e ≤ most) entries
