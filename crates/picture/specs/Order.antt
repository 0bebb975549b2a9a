-- The places of an order.
use Rattle.std.specs.Prelude.{◌≡◌, ℕ, ◌+◌, List, EachIndex, slice_index}

-- the places of the coflows by number, where the order has each coflow once; places count from 1
abbrev pub IsPlaces : List ℕ → List ℕ → Type 0
IsPlaces order places = EachIndex order (λ k. slice_index places (slice_index order k) ≡ k + 1)
