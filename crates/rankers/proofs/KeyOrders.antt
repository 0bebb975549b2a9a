-- Numbers by a key, and those of one key by number.
use Rattle.std.proofs.Common.{◌≡◌, ◌≢◌, ℕ, ◌+◌, ◌*◌, ◌≤◌, ◌<◌, ◌⊎◌, inl, inr, Bool, true, false, List, [], ◌∷◌, length, get_or, Contains, refl, sym, ap, subst, arith, zero, suc}
use Rattle.std.specs.Prelude.{All, AllPairs, if◌then◌else◌, nat_lt}
use Rattle.std.specs.List.{range_with_len}
use Rattle.std.specs.List.Sorted.{IsNonDecreasingBy, IsPermutation}
use Rattle.std.proofs.Math.Nat.{mul-le-mul_right}
use Rattle.std.proofs.lemmas.Bool.{cases_lt, ltb-false, ltb-true}
use Rattle.std.proofs.lemmas.List.{ext_get_or}
use Rattle.std.proofs.lemmas.List.Elements.{Contains-get_or}
use Rattle.std.proofs.lemmas.List.FromFn.{get_or-range_with_len, length-range_with_len}
use Rattle.std.proofs.lemmas.List.Kept.{AllPairs-cons}
use Rattle.std.proofs.lemmas.List.Sorted.{Contains-permutation, IsPermutation-sym}
use Rattle.coflow_units.proofs.Lists.{number_below, number_in, numbers_apart}
use Rattle.coflow_units.proofs.Sums.{all_of_members, first_or_tail, in_first, in_tail, nothing_in, pairs_from_apart}
use Rattle.class_rates.specs.Classes.{ClassBefore}
use Rattle.class_rates.proofs.ClassOrders.{before_as, head_before, no_later, order_is_one, tail_sorted}
use Rattle.rankers.proofs.Moved.{moved_apart}
use Rattle.rankers.specs.ByKey.{IsByKey, by_key, put_by_key}

-- ---- sorted by a number that holds the key and the number

keys_before : (base : ℕ) (key : ℕ → ℕ) (x y : ℕ) → x < base → y < base → x ≢ y → key x * base + x ≤ key y * base + y → ClassBefore key x y
keys_before base key x y lx ly ne le = elim (cases_lt (key x) (key y)) [
  | inl lt ↦ inl lt
  | inr ge ↦ elim (cases_lt (key y) (key x)) [
    | inl gt ↦ absurd (omega (arith, le, ly, mul-le-mul_right {m = key y + 1} {n = key x} base (omega (arith, gt))))
    | inr up ↦
        let e : key x ≡ key y = omega (arith, ge, up) in
        elim (cases_lt x y) [
          | inl lt ↦ inr (e, lt)
          | inr down ↦ absurd (ne (omega (arith, le, ap (λ k. k * base) e, down)))
        ]
  ]
]

sorted_by : (base : ℕ) (key : ℕ → ℕ) (n : ℕ) (out : List ℕ) → n ≤ base → IsPermutation (range_with_len 0 n) out → IsNonDecreasingBy (λ c. key c * base + c) out →
    IsByKey key n out
sorted_by base key n out few moved rises =
    let range = range_with_len 0 n in
    let back = λ (c : ℕ) (has : Contains out c). Contains-permutation out range c (IsPermutation-sym range out moved) has in
    let low = λ (k d : ℕ) (lt : k < length out). number_below 0 n (get_or out k d) (back (get_or out k d) (Contains-get_or out k d lt)) in
    let apart : AllPairs (λ x y. x ≢ y) out = moved_apart range out moved (pairs_from_apart range (numbers_apart 0 n)) in
    record {
      sorted = λ i j d lt in'. keys_before base key (get_or out i d) (get_or out j d) (omega (arith, few, low i d (omega (arith, lt, in')))) (omega (arith, few, low j d in'))
          (apart i j d lt in') (rises i j d (omega (arith, lt)) in');
      coflow = all_of_members (Contains range) out back;
      all = λ c has. Contains-permutation range out c moved has;
    }

-- places that are numbered from 0 on
pub numbered_is_range : (out : List ℕ) (n place : ℕ) → length out ≡ n → n ≤ place → ((k : ℕ) → k < place → get_or out k 0 ≡ k) → out ≡ range_with_len 0 n
numbered_is_range out n place count all numbered = ext_get_or 0 out (range_with_len 0 n) (omega (arith, count, length-range_with_len 0 n))
    (λ k lt. omega (arith, numbered k (omega (arith, lt, count, all)), get_or-range_with_len 0 n k 0 (omega (arith, lt, count))))

-- ---- the function

put_cases : (key : ℕ → ℕ) (c x y : ℕ) (xs : List ℕ) (b : Bool) → (Contains (put_by_key key c xs) y → (c ≡ y) ⊎ Contains xs y) →
    Contains (if b then c ∷ x ∷ xs else x ∷ put_by_key key c xs) y → (c ≡ y) ⊎ Contains (x ∷ xs) y
put_cases key c x y xs true before has = first_or_tail c (x ∷ xs) y has
put_cases key c x y xs false before has = elim (first_or_tail x (put_by_key key c xs) y has) [
  | inl e ↦ inr (subst (Contains (x ∷ xs)) e (in_first x xs))
  | inr later ↦ elim (before later) [
    | inl e ↦ inl e
    | inr old ↦ inr (in_tail x xs y old)
  ]
]

put_in : (key : ℕ → ℕ) (c y : ℕ) (xs : List ℕ) → Contains (put_by_key key c xs) y → (c ≡ y) ⊎ Contains xs y
put_in key c y [] has = first_or_tail c [] y has
put_in key c y (x ∷ xs) has = put_cases key c x y xs (nat_lt (key c) (key x)) (put_in key c y xs) has

put_first : (key : ℕ → ℕ) (c x : ℕ) (xs : List ℕ) (b : Bool) → Contains (put_by_key key c xs) c → Contains (if b then c ∷ x ∷ xs else x ∷ put_by_key key c xs) c
put_first key c x xs true has = in_first c (x ∷ xs)
put_first key c x xs false has = in_tail x (put_by_key key c xs) c has

put_has : (key : ℕ → ℕ) (c : ℕ) (xs : List ℕ) → Contains (put_by_key key c xs) c
put_has key c [] = in_first c []
put_has key c (x ∷ xs) = put_first key c x xs (nat_lt (key c) (key x)) (put_has key c xs)

put_old : (key : ℕ → ℕ) (c x y : ℕ) (xs : List ℕ) (b : Bool) → (Contains xs y → Contains (put_by_key key c xs) y) → Contains (x ∷ xs) y →
    Contains (if b then c ∷ x ∷ xs else x ∷ put_by_key key c xs) y
put_old key c x y xs true keeps has = in_tail c (x ∷ xs) y has
put_old key c x y xs false keeps has = elim (first_or_tail x xs y has) [
  | inl e ↦ subst (Contains (x ∷ put_by_key key c xs)) e (in_first x (put_by_key key c xs))
  | inr later ↦ in_tail x (put_by_key key c xs) y (keeps later)
]

put_keeps : (key : ℕ → ℕ) (c y : ℕ) (xs : List ℕ) → Contains xs y → Contains (put_by_key key c xs) y
put_keeps key c y [] has = absurd (nothing_in y has)
put_keeps key c y (x ∷ xs) has = put_old key c x y xs (nat_lt (key c) (key x)) (put_keeps key c y xs) has

put_behind : (key : ℕ → ℕ) (c x : ℕ) (xs : List ℕ) → AllPairs (ClassBefore key) (x ∷ xs) → x < c → (b : Bool) → nat_lt (key c) (key x) ≡ b →
    AllPairs (ClassBefore key) (put_by_key key c xs) → AllPairs (ClassBefore key) (if b then c ∷ x ∷ xs else x ∷ put_by_key key c xs)
put_behind key c x xs sorted low true is before =
    let less : key c < key x = ltb-true (key c) (key x) is in
    AllPairs-cons (ClassBefore key) c (x ∷ xs) (all_of_members (ClassBefore key c) (x ∷ xs) (λ y has. elim (first_or_tail x xs y has) [
      | inl e ↦ inl (subst (λ z. key c < key z) e less)
      | inr later ↦ inl (omega (arith, less, no_later key x y (head_before key x y xs sorted later)))
    ])) sorted
put_behind key c x xs sorted low false is before =
    let more : key x ≤ key c = ltb-false (key c) (key x) is in
    AllPairs-cons (ClassBefore key) x (put_by_key key c xs) (all_of_members (ClassBefore key x) (put_by_key key c xs) (λ y has. elim (put_in key c y xs has) [
      | inl e ↦ subst (ClassBefore key x) e (elim (cases_lt (key x) (key c)) [
        | inl lt ↦ inl lt
        | inr ge ↦ inr (omega (arith, more, ge), low)
      ])
      | inr old ↦ head_before key x y xs sorted old
    ])) before

put_sorted : (key : ℕ → ℕ) (c : ℕ) (xs : List ℕ) → AllPairs (ClassBefore key) xs → ((y : ℕ) → Contains xs y → y < c) → AllPairs (ClassBefore key) (put_by_key key c xs)
put_sorted key c [] sorted low = λ i j d lt in'. absurd (omega (arith, lt, in'))
put_sorted key c (x ∷ xs) sorted low = put_behind key c x xs sorted (low x (in_first x xs)) (nat_lt (key c) (key x)) refl
    (put_sorted key c xs (tail_sorted key x xs sorted) (λ y has. low y (in_tail x xs y has)))

pub by_key_low : (key : ℕ → ℕ) (n y : ℕ) → Contains (by_key key n) y → y < n
by_key_low key zero y has = absurd (nothing_in y has)
by_key_low key (suc n) y has = elim (put_in key n y (by_key key n) has) [
  | inl e ↦ omega (arith, e)
  | inr old ↦ omega (arith, by_key_low key n y old)
]

pub by_key_all : (key : ℕ → ℕ) (n y : ℕ) → y < n → Contains (by_key key n) y
by_key_all key zero y lt = absurd (omega (arith, lt))
by_key_all key (suc n) y lt = elim (cases_lt y n) [
  | inl low ↦ put_keeps key n y (by_key key n) (by_key_all key n y low)
  | inr high ↦
      let e : n ≡ y = omega (arith, lt, high) in
      subst (Contains (by_key key (suc n))) e (put_has key n (by_key key n))
]

by_key_sorted : (key : ℕ → ℕ) (n : ℕ) → AllPairs (ClassBefore key) (by_key key n)
by_key_sorted key zero = λ i j d lt in'. absurd (omega (arith, in'))
by_key_sorted key (suc n) = put_sorted key n (by_key key n) (by_key_sorted key n) (by_key_low key n)

pub by_key_is : (key : ℕ → ℕ) (n : ℕ) → IsByKey key n (by_key key n)
by_key_is key n = record {
  sorted = by_key_sorted key n;
  coflow = all_of_members (Contains (range_with_len 0 n)) (by_key key n) (λ c has. number_in 0 n c (omega arith) (omega (arith, by_key_low key n c has)));
  all = λ c has. by_key_all key n c (omega (arith, number_below 0 n c has));
}

pub by_key_one : (key : ℕ → ℕ) (n : ℕ) (order : List ℕ) → IsByKey key n order → order ≡ by_key key n
by_key_one key n order is = order_is_one (range_with_len 0 n) key order (by_key key n) is (by_key_is key n)

-- the list that was sorted by a number that holds the key and the number
pub sorted_is : (base : ℕ) (key : ℕ → ℕ) (n : ℕ) (before out : List ℕ) → n ≤ base → before ≡ range_with_len 0 n → IsPermutation before out →
    IsNonDecreasingBy (λ c. key c * base + c) out → out ≡ by_key key n
sorted_is base key n before out few numbered moved rises =
    by_key_one key n out (sorted_by base key n out few (subst (λ (xs : List ℕ). IsPermutation xs out) numbered moved) rises)

pub by_key_below : (key : ℕ → ℕ) (n most : ℕ) (order : List ℕ) → order ≡ by_key key n → n ≤ most → All (λ c. c < most) order
by_key_below key n most order is le =
    subst (All (λ c. c < most)) (sym is) (all_of_members (λ c. c < most) (by_key key n) (λ c has. omega (arith, le, by_key_low key n c has)))

-- ---- keys that agree

pub keys_agree : (key other : ℕ → ℕ) (n : ℕ) → ((c : ℕ) → c < n → key c ≡ other c) → by_key key n ≡ by_key other n
keys_agree key other n same =
    let is = by_key_is key n in
    let low = λ (k d : ℕ) (lt : k < length (by_key key n)). by_key_low key n (get_or (by_key key n) k d) (Contains-get_or (by_key key n) k d lt) in
    by_key_one other n (by_key key n) (record {
      sorted = λ i j d lt in'. before_as key other (get_or (by_key key n) i d) (get_or (by_key key n) j d) (same _ (low i d (omega (arith, lt, in')))) (same _ (low j d in'))
          (is.sorted i j d lt in');
      coflow = is.coflow;
      all = is.all;
    })
