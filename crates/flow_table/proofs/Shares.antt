-- Shares of mappers, and what they add up to.
use Rattle.std.proofs.Common.{◌≡◌, ℕ, ◌+◌, ◌*◌, ◌/◌, ◌%◌, ◌<◌, ◌≤◌, inl, inr, Bool, true, false, List, [], ◌∷◌, length, refl, ap, ◌∙◌, arith, zero, suc, min}
use Rattle.std.specs.Prelude.{sum_by, if◌then◌else◌, nat_lt, ◌==◌, slice_index}
use Rattle.std.specs.List.{range_with_len}
use Rattle.std.proofs.lemmas.Bool.{cases_lt, le-ltb, lt-ltb}
use Rattle.std.proofs.lemmas.Nat.{div-add-mod', mod_below}
use Rattle.std.proofs.lemmas.List.FromFn.{length-range_with_len}
use Rattle.std.proofs.lemmas.List.Sums.{sum_by-cons}
use Rattle.coflow_units.specs.declared.trace.CoflowLine.{CoflowLine}
use Rattle.coflow_units.specs.declared.trace.Reducer.{Reducer}
use Rattle.coflow_units.proofs.Lists.{range_more}
use Rattle.coflow_units.proofs.Sums.{sum_add, sum_same, sum_scale}
use Rattle.flow_table.specs.Units.{share, units_of_reducer}
use Rattle.flow_table.specs.Sent.{places, sent_by, sent_of}
use Rattle.flow_table.specs.Targets.{whole_to}

-- as many places as there are ones
pub sum_ones : {X : Type 0} (xs : List X) → sum_by (λ (x : X). 1) xs ≡ length xs
sum_ones [] = refl
sum_ones {X} (x ∷ xs) = omega (arith, sum_by-cons (λ (y : X). 1) x xs, sum_ones xs)

abbrev is_first : ℕ → ℕ → ℕ
is_first rest place = if nat_lt place rest then 1 else 0

first_one : (rest n k : ℕ) → k ≡ n → n < rest → is_first rest k ≡ 1
first_one rest n k e lt = ap (λ b. if b then 1 else 0) (lt-ltb k rest (omega arith))

past_first : (rest n k : ℕ) → k ≡ n → rest ≤ n → is_first rest k ≡ 0
past_first rest n k e le = ap (λ b. if b then 1 else 0) (le-ltb k rest (omega arith))

first_ones : (rest n : ℕ) → sum_by (is_first rest) (range_with_len 0 n) ≡ min n rest
first_ones rest zero = omega arith
first_ones rest (suc n) = elim (cases_lt n rest) [
  | inl lt ↦ omega (arith, range_more (is_first rest) 0 n, first_ones rest n, first_one rest n (0 + n) (omega arith) lt)
  | inr le ↦ omega (arith, range_more (is_first rest) 0 n, first_ones rest n, past_first rest n (0 + n) (omega arith) le)
]

-- the shares of all mappers are all units
pub shares_are_all : (mappers units : ℕ) → 1 ≤ mappers → sum_by (λ place. share mappers units place) (range_with_len 0 mappers) ≡ units
shares_are_all mappers units some =
    let parts = sum_add (λ place. units / mappers) (λ place. if nat_lt place (units % mappers) then 1 else 0) (range_with_len 0 mappers) in
    let whole = sum_scale (units / mappers) (λ (place : ℕ). 1) (range_with_len 0 mappers) in
    let one : sum_by (λ (place : ℕ). units / mappers * 1) (range_with_len 0 mappers) ≡ sum_by (λ (place : ℕ). units / mappers) (range_with_len 0 mappers) =
    sum_same (λ (place : ℕ). units / mappers * 1) (λ place. units / mappers) (range_with_len 0 mappers) (λ place has. omega arith) in
    let many : units / mappers * sum_by (λ (place : ℕ). 1) (range_with_len 0 mappers) ≡ units / mappers * mappers =
    ap (λ n. units / mappers * n) (sum_ones (range_with_len 0 mappers) ∙ length-range_with_len 0 mappers) in
    omega (arith, parts, whole, one, many, first_ones (units % mappers) mappers, div-add-mod' units mappers, mod_below units mappers some)

-- a test that picks terms
abbrev pub picked : Bool → ℕ → ℕ
picked b n = if b then n else 0

picked_add : (b : Bool) (m n : ℕ) → picked b (m + n) ≡ picked b m + picked b n
picked_add true m n = refl
picked_add false m n = refl

picked_one : (b : Bool) (k : ℕ) → picked b k ≡ k * picked b 1
picked_one true k = omega arith
picked_one false k = omega arith

picked_scaled : (b : Bool) (k n : ℕ) → picked b (k * n) ≡ n * picked b k
picked_scaled true k n = omega arith
picked_scaled false k n = omega arith

-- the mappers at an ingress, and those of them that come below a rest
abbrev pub mappers_at : CoflowLine → ℕ → ℕ
mappers_at x ingress = sum_by (λ place. if slice_index x.mappers place == ingress then 1 else 0) (places x)

abbrev pub mappers_below : CoflowLine → ℕ → ℕ → ℕ
mappers_below x ingress rest = sum_by (λ place. if slice_index x.mappers place == ingress then (if nat_lt place rest then 1 else 0) else 0) (places x)

-- what a reducer gets from an ingress: its whole from each mapper there, and one unit from each that comes below its rest
pub sent_of_is : (x : CoflowLine) (units ingress : ℕ) →
    sent_of x units ingress ≡ units / length x.mappers * mappers_at x ingress + mappers_below x ingress (units % length x.mappers)
sent_of_is x units ingress =
    let at = λ (place : ℕ). slice_index x.mappers place == ingress in
    let whole = units / length x.mappers in
    let one = λ (place : ℕ). if nat_lt place (units % length x.mappers) then 1 else 0 in
    sum_same (λ place. picked (at place) (whole + one place)) (λ place. whole * picked (at place) 1 + picked (at place) (one place)) (places x)
    (λ place has. picked_add (at place) whole (one place) ∙ ap (λ n. n + picked (at place) (one place)) (picked_one (at place) whole))
    ∙ sum_add (λ place. whole * picked (at place) 1) (λ place. picked (at place) (one place)) (places x)
    ∙ ap (λ n. n + mappers_below x ingress (units % length x.mappers)) (sum_scale whole (λ place. picked (at place) 1) (places x))

-- the same for all reducers at an egress
pub sent_by_is : (unit : ℕ) (x : CoflowLine) (ingress egress : ℕ)
    → sent_by unit x ingress egress ≡ whole_to unit x egress * mappers_at x ingress +
    sum_by (λ (r : Reducer). if r.location == egress then mappers_below x ingress (units_of_reducer unit r % length x.mappers) else 0) x.reducers
sent_by_is unit x ingress egress =
    let at = λ (r : Reducer). r.location == egress in
    let whole = λ (r : Reducer). units_of_reducer unit r / length x.mappers in
    let below = λ (r : Reducer). mappers_below x ingress (units_of_reducer unit r % length x.mappers) in
    sum_same (λ r. picked (at r) (sent_of x (units_of_reducer unit r) ingress)) (λ r. mappers_at x ingress * picked (at r) (whole r) + picked (at r) (below r)) x.reducers
    (λ r has. ap (λ n. picked (at r) n) (sent_of_is x (units_of_reducer unit r) ingress) ∙ picked_add (at r) (whole r * mappers_at x ingress) (below r) ∙
    ap (λ n. n + picked (at r) (below r)) (picked_scaled (at r) (whole r) (mappers_at x ingress)))
    ∙ sum_add (λ r. mappers_at x ingress * picked (at r) (whole r)) (λ r. picked (at r) (below r)) x.reducers
    ∙ ap (λ n. n + sum_by (λ r. picked (at r) (below r)) x.reducers) (sum_scale (mappers_at x ingress) (λ r. picked (at r) (whole r)) x.reducers ∙
    turned (mappers_at x ingress) (whole_to unit x egress))
  where
    turned : (m n : ℕ) → m * n ≡ n * m
    turned m n = omega arith

-- where no term is picked, none of any kind is
pub none_picked : {X : Type 0} (at : X → Bool) (w : X → ℕ) (xs : List X) → sum_by (λ x. picked (at x) 1) xs ≡ 0 → sum_by (λ x. picked (at x) (w x)) xs ≡ 0
none_picked at w [] e = refl
none_picked at w (x ∷ xs) e =
    let first : picked (at x) 1 ≡ 0 = omega (arith, sum_by-cons (λ y. picked (at y) 1) x xs, e) in
    let rest = none_picked at w xs (omega (arith, sum_by-cons (λ y. picked (at y) 1) x xs, e)) in
    omega (arith, sum_by-cons (λ y. picked (at y) (w y)) x xs, rest, here (at x) (w x) first)
  where
    here : (b : Bool) (n : ℕ) → picked b 1 ≡ 0 → picked b n ≡ 0
    here true n e = absurd (omega arith)
    here false n e = refl
