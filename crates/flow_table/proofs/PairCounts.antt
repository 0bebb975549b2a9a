-- Pairs of a place and a rest, counted from either side.
use Rattle.std.proofs.Common.{◌≡◌, ℕ, ◌+◌, ◌-◌, ◌*◌, ◌<◌, ◌≤◌, Bool, true, false, cond, List, [], ◌∷◌, get_or, length, take, refl, ap, arith, zero, suc, leb}
use Rattle.std.specs.Prelude.{All, count_by, nat_lt, sum_by}
use Rattle.std.specs.List.{AllWithin}
use Rattle.std.proofs.lemmas.Bool.{le-ltb, leb-false, leb-true, lt-ltb}
use Rattle.std.proofs.lemmas.List.Sums.{count_by-le-length, sum_by-cons, sum_by-le, sum_by_more_le}
use Rattle.coflow_units.proofs.Sums.{sum_swap}
use Rattle.flow_table.specs.declared.spots.Spot.{Spot}
use Rattle.flow_table.specs.Spots.{IsAscending, pairs}

abbrev one_if : Bool → ℕ
one_if b = cond b 1 0

none_pass : {X : Type 0} (p : X → Bool) (xs : List X) → AllWithin (λ x. p x ≡ false) xs 0 (length xs) → count_by p xs ≡ 0
none_pass p [] h = refl
none_pass p (x ∷ xs) h =
    omega (arith, sum_by-cons (λ y. cond (p y) 1 0) x xs, ap one_if (h 0 x (omega arith) (omega arith)), none_pass p xs (λ k d low high. h (suc k) d (omega arith) (omega arith)))

-- elements that pass stand before all others
pub count_front : {X : Type 0} (p : X → Bool) (xs : List X) (i : ℕ) → i ≤ length xs → AllWithin (λ x. p x ≡ true) xs 0 i → AllWithin (λ x. p x ≡ false) xs i (length xs) →
    count_by p xs ≡ i
count_front p [] i le passes fails = omega arith
count_front p (x ∷ xs) zero le passes fails = none_pass p (x ∷ xs) fails
count_front p (x ∷ xs) (suc i) le passes fails =
    omega (
      arith,
      sum_by-cons (λ y. cond (p y) 1 0) x xs,
      ap one_if (passes 0 x (omega arith) (omega arith)),
      count_front p xs i (omega arith) (λ k d low high. passes (suc k) d (omega arith) (omega arith)) (λ k d low high. fails (suc k) d (omega arith) (omega arith)),
    )

-- elements that fail stand before all others
pub count_back : {X : Type 0} (p : X → Bool) (xs : List X) (i : ℕ) → i ≤ length xs → AllWithin (λ x. p x ≡ false) xs 0 i → AllWithin (λ x. p x ≡ true) xs i (length xs) →
    count_by p xs + i ≡ length xs
count_back p [] i le fails passes = omega arith
count_back p (x ∷ xs) zero le fails passes =
    omega (
      arith,
      sum_by-cons (λ y. cond (p y) 1 0) x xs,
      ap one_if (passes 0 x (omega arith) (omega arith)),
      count_back p xs 0 (omega arith) (λ k d low high. absurd (omega arith)) (λ k d low high. passes (suc k) d (omega arith) (omega arith)),
    )
count_back p (x ∷ xs) (suc i) le fails passes =
    omega (
      arith,
      sum_by-cons (λ y. cond (p y) 1 0) x xs,
      ap one_if (fails 0 x (omega arith) (omega arith)),
      count_back p xs i (omega arith) (λ k d low high. fails (suc k) d (omega arith) (omega arith)) (λ k d low high. passes (suc k) d (omega arith) (omega arith)),
    )

-- the places below a rest, and the rests that a place comes below
abbrev pub places_below : List Spot → Spot → ℕ
places_below places rest = count_by (λ (place : Spot). nat_lt place.number rest.number) places

abbrev pub rests_above : List Spot → Spot → ℕ
rests_above rests place = count_by (λ (rest : Spot). nat_lt place.number rest.number) rests

pub counted_by_places : (places rests : List Spot) → sum_by (rests_above rests) places ≡ pairs places rests
counted_by_places places rests = sum_swap (λ (place rest : Spot). cond (nat_lt place.number rest.number) 1 0) places rests

-- counts fit
pub pairs_fit : (places rests : List Spot) (k : ℕ) (d : Spot) → k < length rests → length places ≤ 4096 → length rests ≤ 4096 →
    sum_by (places_below places) (take k rests) + places_below places (get_or rests k d) ≤ 4096 * 4096
pairs_fit places rests k d lt few many =
    let each : All (λ (rest : Spot). places_below places rest ≤ 4096) rests =
    λ j e j<. omega (arith, count_by-le-length (λ (place : Spot). nat_lt place.number (get_or rests j e).number) places) in
    omega (arith, sum_by_more_le (places_below places) rests k d lt, sum_by-le (places_below places) 4096 rests each)

pub pairs_fit_too : (places rests : List Spot) (k : ℕ) (d : Spot) → k < length places → length places ≤ 4096 → length rests ≤ 4096 →
    sum_by (rests_above rests) (take k places) + rests_above rests (get_or places k d) ≤ 4096 * 4096
pairs_fit_too places rests k d lt few many =
    let each : All (λ (place : Spot). rests_above rests place ≤ 4096) places =
    λ j e j<. omega (arith, count_by-le-length (λ (rest : Spot). nat_lt (get_or places j e).number rest.number) rests) in
    omega (arith, sum_by_more_le (rests_above rests) places k d lt, sum_by-le (rests_above rests) 4096 places each)

pub pairs_bound : (places rests : List Spot) → length places ≤ 4096 → length rests ≤ 4096 → pairs places rests ≤ 4096 * 4096
pairs_bound places rests few many =
    let each : All (λ (rest : Spot). places_below places rest ≤ 4096) rests =
    λ j e j<. omega (arith, count_by-le-length (λ (place : Spot). nat_lt place.number (get_or rests j e).number) places) in
    omega (arith, sum_by-le (places_below places) 4096 rests each)

-- no place is below a rest where the first place is not below the last rest
pub no_pairs : (places rests : List Spot) → ((i j : ℕ) (d e : Spot) → i < length places → j < length rests → (get_or rests j e).number ≤ (get_or places i d).number) →
    pairs places rests ≡ 0
no_pairs places [] h = refl
no_pairs places (r ∷ rs) h =
    omega (
      arith,
      sum_by-cons (places_below places) r rs,
      none_pass (λ (place : Spot). nat_lt place.number r.number) places (λ i d low high. le-ltb (get_or places i d).number r.number (h i 0 d d high (omega arith))),
      no_pairs places rs (λ i j d e li lj. h i (suc j) d e li (omega arith)),
    )

pub far_apart : (places rests : List Spot) (first last : ℕ) → IsAscending places → IsAscending rests
    → ((d : Spot) → 0 < length places → (get_or places 0 d).number ≡ first) → ((d : Spot) → 0 < length rests → (get_or rests (length rests - 1) d).number ≡ last) → last ≤ first →
    pairs places rests ≡ 0
far_apart places rests first last pa ra f l le =
    no_pairs places rests (λ i j d e li lj. omega (arith, pa 0 i d (omega arith) li, ra j (length rests - 1) e (omega arith) (omega arith), f d (omega arith), l e (omega arith)))

-- what a search over the rests for the end of those up to a place says
pub above_is : (rests : List Spot) (place : Spot) (upto : ℕ) → upto ≤ length rests → AllWithin (λ (rest : Spot). leb rest.number place.number ≡ true) rests 0 upto →
    AllWithin (λ (rest : Spot). leb rest.number place.number ≡ false) rests upto (length rests)
    → rests_above rests place ≡ length rests - upto
above_is rests place upto le low high =
    omega (
      arith,
      count_back (λ (rest : Spot). nat_lt place.number rest.number) rests upto le
          (λ k d l h. le-ltb place.number (get_or rests k d).number (leb-true (get_or rests k d).number place.number (low k d l h)))
          (λ k d l h. lt-ltb place.number (get_or rests k d).number (leb-false (get_or rests k d).number place.number (high k d l h))),
    )
