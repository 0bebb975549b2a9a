-- Spots by location: sums over those of one location, and where they stand.
use Rattle.std.proofs.Common.{◌≡◌, ℕ, ◌+◌, ◌-◌, ◌<◌, ◌≤◌, inl, inr, Bool, true, false, cond, List, [], ◌∷◌, ◌++◌, drop, get_or, length, map, take, refl, sym, ap, subst, ◌∙◌, arith}
use Rattle.std.proofs.Common.{zero, suc}
use Rattle.std.specs.Prelude.{AllPairs, filter, sum_by, ◌==◌}
use Rattle.std.specs.List.Sorted.{IsNonDecreasingBy, IsPermutation}
use Rattle.std.proofs.lemmas.Bool.{cases_lt, cases_order, eq-eqb, eqb-true, ne_eqb}
use Rattle.std.proofs.lemmas.List.{append-nil, get_or_read, get_or-drop, get_or-take, length-drop, length-take, take-append-drop}
use Rattle.std.proofs.lemmas.List.Elements.{filter-append, filter_passes}
use Rattle.std.proofs.lemmas.List.Kept.{AllPairs-filter}
use Rattle.std.proofs.lemmas.List.Sorted.{sum_by-IsPermutation}
use Rattle.std.proofs.lemmas.List.Sums.{sum_by-cons}
use Rattle.flow_table.specs.declared.spots.Spot.{Spot}
use Rattle.flow_table.specs.Spots.{EndsAt, IsByLocation, spots_at, sum_at}
use Rattle.flow_table.proofs.Shares.{picked}

-- a sum over what passes a test picks terms
sum_of_cond : {X : Type 0} (f : X → ℕ) (b : Bool) (x : X) (xs : List X) → sum_by f (cond b (x ∷ xs) xs) ≡ picked b (f x) + sum_by f xs
sum_of_cond f true x xs = sum_by-cons f x xs
sum_of_cond f false x xs = omega arith

pub sum_of_filter : {X : Type 0} (f : X → ℕ) (p : X → Bool) (xs : List X) → sum_by f (filter p xs) ≡ sum_by (λ x. picked (p x) (f x)) xs
sum_of_filter f p [] = refl
sum_of_filter f p (x ∷ xs) = omega (arith, sum_of_cond f (p x) x (filter p xs), sum_of_filter f p xs, sum_by-cons (λ y. picked (p y) (f y)) x xs)

pub sum_of_map : {X Y : Type 0} (f : Y → ℕ) (g : X → Y) (xs : List X) → sum_by f (map g xs) ≡ sum_by (λ x. f (g x)) xs
sum_of_map f g [] = refl
sum_of_map f g (x ∷ xs) = omega (arith, sum_by-cons f (g x) (map g xs), sum_by-cons (λ y. f (g y)) x xs, sum_of_map f g xs)

-- the sum at a location, where the spots are made of other things and then sorted
pub sum_made : {X : Type 0} (f : ℕ → ℕ) (make : X → Spot) (xs : List X) (spots : List Spot) (location : ℕ) → IsPermutation (map make xs) spots →
    sum_at f spots location ≡ sum_by (λ x. picked ((make x).location == location) (f (make x).number)) xs
sum_made f make xs spots location moved =
    sum_of_filter (λ (s : Spot). f s.number) (λ (s : Spot). s.location == location) spots
    ∙ sum_by-IsPermutation (λ (s : Spot). picked (s.location == location) (f s.number)) (map make xs) spots moved
    ∙ sum_of_map (λ (s : Spot). picked (s.location == location) (f s.number)) make xs

-- spots that stand by location, where neighbours at one location ascend
tied : (spots : List Spot) → IsNonDecreasingBy (λ (s : Spot). s.location) spots
    → ((k : ℕ) (d : Spot) → k + 1 < length spots → (get_or spots k d).location ≡ (get_or spots (k + 1) d).location → (get_or spots k d).number ≤ (get_or spots (k + 1) d).number)
    → (i n : ℕ) (d : Spot) → i + n < length spots → (get_or spots i d).location ≡ (get_or spots (i + n) d).location → (get_or spots i d).number ≤ (get_or spots (i + n) d).number
tied spots up ties i zero d lt same = let e : i + 0 ≡ i = omega arith in omega (arith, ap (λ k. (get_or spots k d).number) e)
tied spots up ties i (suc n) d lt same =
    let e : i + suc n ≡ i + n + 1 = omega arith in
    let at = λ (k : ℕ). (get_or spots k d).location in
    let mid : (get_or spots i d).location ≡ (get_or spots (i + n) d).location =
    omega (arith, up i (i + n) d (omega arith) (omega arith), up (i + n) (i + suc n) d (omega arith) lt, same) in
    let next : (get_or spots (i + n) d).location ≡ (get_or spots (i + n + 1) d).location = sym mid ∙ same ∙ ap at e in
    omega (arith, tied spots up ties i n d (omega arith) mid, ties (i + n) d (omega arith) next, ap (λ k. (get_or spots k d).number) e)

pub by_location : (spots : List Spot) → IsNonDecreasingBy (λ (s : Spot). s.location) spots
    → ((k : ℕ) (d : Spot) → k + 1 < length spots → (get_or spots k d).location ≡ (get_or spots (k + 1) d).location → (get_or spots k d).number ≤ (get_or spots (k + 1) d).number)
    → IsByLocation spots
by_location spots up ties = record {
  locations = up;
  numbers = λ location i j d le lt. elim (cases_order i j) [
    | inl e ↦ omega (arith, ap (λ k. (get_or (spots_at spots location) k d).number) e)
    | inr (inr gt) ↦ absurd (omega arith)
    | inr (inl less) ↦
        let here = filter_passes (λ (s : Spot). s.location == location) spots in
        AllPairs-filter (λ (x y : Spot). x.location ≡ y.location → x.number ≤ y.number) (λ (s : Spot). s.location == location) spots pairs i j d less lt
        (eqb-true _ location (here i d (omega arith)) ∙ sym (eqb-true _ location (here j d lt)))
  ];
}
  where
    pairs : AllPairs (λ (x y : Spot). x.location ≡ y.location → x.number ≤ y.number) spots
    pairs i j d less lt same =
        let e : i + (j - i) ≡ j = omega arith in
        subst (λ k. (get_or spots i d).number ≤ (get_or spots k d).number) e (tied spots up ties i (j - i) d (omega arith) (same ∙ ap (λ k. (get_or spots k d).location) (sym e)))

-- ---- a place among spots that stand by location

-- the spots before the place come before the location, and no other one does
pub record StandsAt (spots : List Spot) (location first : ℕ) : Type 0 where
  pub within : first ≤ length spots
  pub earlier : (s : ℕ) (d : Spot) → s < first → (get_or spots s d).location < location
  pub later : (s : ℕ) (d : Spot) → first ≤ s → s < length spots → location ≤ (get_or spots s d).location

-- past the spots of a location
pub stands_next : (spots : List Spot) (location first end : ℕ) → IsNonDecreasingBy (λ (s : Spot). s.location) spots → StandsAt spots location first →
    EndsAt spots location first end → StandsAt spots (location + 1) end
stands_next spots location first end up at ends = record {
  within = ends.bound.1;
  earlier = λ s d lt. before s d lt;
  later = λ s d low high.
      let some : end < length spots = omega arith in
      let past : (get_or spots end d).location ≡ location → ⊥ = ends.last d some in
      omega (arith, up end s d low high, at.later end d ends.bound.0 some, apart _ location (at.later end d ends.bound.0 some) past);
}
  where
    apart : (m n : ℕ) → n ≤ m → (m ≡ n → ⊥) → n < m
    apart m n le ne = grind arith

    before : (s : ℕ) (d : Spot) → s < end → (get_or spots s d).location < location + 1
    before s d lt = elim (cases_order s first) [
      | inl e ↦ omega (arith, ends.own s d (omega arith) lt)
      | inr (inl less) ↦ omega (arith, at.earlier s d less)
      | inr (inr more) ↦ omega (arith, ends.own s d (omega arith) lt)
    ]

-- the place at its own location
pub reaches : (spots : List Spot) (location first : ℕ) (x : Spot) → StandsAt spots location first → first < length spots → x ≡ get_or spots first x → location ≤ x.location
reaches spots location first x at lt is = omega (arith, at.later first x (omega arith) lt, ap (λ (y : Spot). y.location) is)

pub stands_here : (spots : List Spot) (location first : ℕ) (x : Spot) → IsNonDecreasingBy (λ (s : Spot). s.location) spots → StandsAt spots location first → first < length spots →
    x ≡ get_or spots first x → StandsAt spots x.location first
stands_here spots location first x up at lt is = record {
  within = at.within;
  earlier = λ s d low. omega (arith, at.earlier s d low, reaches spots location first x at lt is);
  later = λ s d low high. omega (arith, ap (λ (y : Spot). y.location) (get_or_read spots first x lt is d), up first s d low high);
}

-- no spot is between a location and the place that stands there
pub none_between : (spots : List Spot) (location first : ℕ) (x : Spot) → IsNonDecreasingBy (λ (s : Spot). s.location) spots → StandsAt spots location first → first < length spots →
    x ≡ get_or spots first x → (e : ℕ) → location ≤ e → e < x.location → (s : ℕ) (d : Spot) → s < length spots → (get_or spots s d).location ≡ e → ⊥
none_between spots location first x up at lt is e low high s d in' same = elim (cases_lt s first) [
  | inl before ↦ omega (arith, at.earlier s d before, same, low)
  | inr after ↦ omega (arith, ap (λ (y : Spot). y.location) (get_or_read spots first x lt is d), up first s d after in', same, high)
]

-- past the last place no spot has a location
pub none_past : (spots : List Spot) (location first : ℕ) → StandsAt spots location first → length spots ≤ first → (e : ℕ) → location ≤ e → (s : ℕ) (d : Spot) → s < length spots →
    (get_or spots s d).location ≡ e → ⊥
none_past spots location first at end e low s d in' same = omega (arith, at.earlier s d (omega (arith, in', end)), same, low)

-- the spot at the place is one of its location
pub ends_later : (spots : List Spot) (first end : ℕ) (x : Spot) → first < length spots → x ≡ get_or spots first x → EndsAt spots x.location first end → first < end
ends_later spots first end x lt is ends = elim (cases_lt first end) [
  | inl less ↦ less
  | inr more ↦
      let same : end ≡ first = omega (arith, more, ends.bound.0) in
      absurd (ends.last x (omega (arith, same, lt)) (ap (λ k. (get_or spots k x).location) same ∙ ap (λ (y : Spot). y.location) (sym is)))
]

all_pass : {X : Type 0} (p : X → Bool) (xs : List X) → ((k : ℕ) (d : X) → k < length xs → p (get_or xs k d) ≡ true) → filter p xs ≡ xs
all_pass p [] h = refl
all_pass p (x ∷ xs) h = ap (λ b. cond b (x ∷ filter p xs) (filter p xs)) (h 0 x (omega arith)) ∙ ap (λ l. x ∷ l) (all_pass p xs (λ k d lt. h (suc k) d (omega arith)))

pub none_pass : {X : Type 0} (p : X → Bool) (xs : List X) → ((k : ℕ) (d : X) → k < length xs → p (get_or xs k d) ≡ false) → filter p xs ≡ []
none_pass p [] h = refl
none_pass p (x ∷ xs) h = ap (λ b. cond b (x ∷ filter p xs) (filter p xs)) (h 0 x (omega arith)) ∙ none_pass p xs (λ k d lt. h (suc k) d (omega arith))

-- a part of a list with all that passes
pub part_is_filter : {X : Type 0} (p : X → Bool) (xs : List X) (first end : ℕ) → first ≤ end → end ≤ length xs → ((k : ℕ) (d : X) → k < first → p (get_or xs k d) ≡ false)
    → ((k : ℕ) (d : X) → first ≤ k → k < end → p (get_or xs k d) ≡ true) → ((k : ℕ) (d : X) → end ≤ k → k < length xs → p (get_or xs k d) ≡ false) →
    take (end - first) (drop first xs) ≡ filter p xs
part_is_filter {X} p xs first end le within low mid high =
    let parts : take first xs ++ drop first xs ≡ xs = take-append-drop first xs in
    let parts' : take (end - first) (drop first xs) ++ drop (end - first) (drop first xs) ≡ drop first xs = take-append-drop (end - first) (drop first xs) in
    let before : filter p (take first xs) ≡ [] = none_pass p (take first xs) (λ k d lt.
    let k< : k < first = omega (arith, length-take first xs) in
    ap p (get_or-take first xs k d k<) ∙ low k d k<) in
    let here : filter p (take (end - first) (drop first xs)) ≡ take (end - first) (drop first xs) = all_pass p (take (end - first) (drop first xs)) (λ k d lt.
    let k< : k < end - first = omega (arith, length-take (end - first) (drop first xs)) in
    ap p (get_or-take (end - first) (drop first xs) k d k< ∙ get_or-drop first xs k d) ∙ mid (first + k) d (omega arith) (omega arith)) in
    let behind : filter p (drop (end - first) (drop first xs)) ≡ [] = none_pass p (drop (end - first) (drop first xs)) (λ k d lt.
    let short : first + (end - first + k) < length xs = omega (arith, length-drop (end - first) (drop first xs), length-drop first xs) in
    ap p (get_or-drop (end - first) (drop first xs) k d ∙ get_or-drop first xs (end - first + k) d) ∙ high (first + (end - first + k)) d (omega arith) short) in
    joined (take first xs) (take (end - first) (drop first xs)) (drop (end - first) (drop first xs)) (drop first xs) before here behind parts' parts
  where
    joined : (a b c bc : List X) → filter p a ≡ [] → filter p b ≡ b → filter p c ≡ [] → b ++ c ≡ bc → a ++ bc ≡ xs → b ≡ filter p xs
    joined a b c bc fa fb fc e e' =
        sym (append-nil b) ∙ ap (λ l. b ++ l) (sym fc) ∙ ap (λ l. l ++ filter p c) (sym fb) ∙ sym (filter-append p b c) ∙ ap (filter p) e
        ∙ ap (λ l. l ++ filter p bc) (sym fa) ∙ sym (filter-append p a bc) ∙ ap (filter p) e'

-- the part between a place and the end has the spots of the location
pub part_at : (spots : List Spot) (location first end : ℕ) → IsNonDecreasingBy (λ (s : Spot). s.location) spots → StandsAt spots location first → EndsAt spots location first end →
    take (end - first) (drop first spots) ≡ spots_at spots location
part_at spots location first end up at ends =
    let next = stands_next spots location first end up at ends in
    part_is_filter (λ (s : Spot). s.location == location) spots first end ends.bound.0 ends.bound.1
    (λ k d lt. ne_eqb (get_or spots k d).location location (less (at.earlier k d lt)))
    (λ k d low high. eq-eqb (get_or spots k d).location location (ends.own k d low high))
    (λ k d low high. ne_eqb (get_or spots k d).location location (more (next.later k d low high)))
  where
    less : {m n : ℕ} → m < n → m ≡ n → ⊥
    less lt e = omega arith

    more : {m n : ℕ} → n + 1 ≤ m → m ≡ n → ⊥
    more le e = omega arith
