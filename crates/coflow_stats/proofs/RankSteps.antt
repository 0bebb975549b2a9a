-- The number at a rank.
use Rattle.std.proofs.Common.{◌≡◌, ℕ, ◌+◌, ◌≤◌, ◌<◌, inl, inr, Bool, true, false, cond, ltb, leb, ltb-true, leb-true, le-leb, lt-ltb, List, [], ◌∷◌}
use Rattle.std.proofs.Common.{length, get_or, take, drop, refl, sym, ap, subst, suc, arith}
use Rattle.std.specs.Prelude.{count_by}
use Rattle.std.specs.List.Sorted.{IsNonDecreasingBy, IsPermutation}
use Rattle.std.proofs.lemmas.Bool.{cases_Bool}
use Rattle.std.proofs.lemmas.List.{get_or-drop, length-drop, length-take-le, get_or-take}
use Rattle.std.proofs.lemmas.List.Elements.{Contains-get_or}
use Rattle.std.proofs.lemmas.List.Sorted.{Contains-permutation, IsPermutation-sym, length_permutation, sum_by-IsPermutation}
use Rattle.std.proofs.lemmas.List.Sums.{count_by-le-length, sum_by-cons, sum_by-take-drop, sum_by-take-le}
use Rattle.coflow_units.proofs.Sums.{sum_mono}
use Rattle.coflow_stats.specs.Percentile.{IsPercentile, rank}

-- ---- one number at a rank
if_more : (a b : Bool) → (a ≡ true → b ≡ true) → cond a 1 0 ≤ cond b 1 0
if_more true true h = omega arith
if_more true false h = absurd (let e = h refl in cc)
if_more false true h = omega arith
if_more false false h = omega arith

upto_is_below : (v w : ℕ) → v < w → (xs : List ℕ) → count_by (λ x. leb x v) xs ≤ count_by (λ x. ltb x w) xs
upto_is_below v w lt xs = sum_mono (λ x. cond (leb x v) 1 0) (λ x. cond (ltb x w) 1 0) xs
    (λ x has. if_more (leb x v) (ltb x w) (λ e. lt-ltb x w (omega (arith, leb-true x v e, lt))))

not_less : (percent : ℕ) (xs : List ℕ) (v w : ℕ) → IsPercentile percent xs v → IsPercentile percent xs w → v < w → ⊥
not_less percent xs v w pv pw lt = omega (arith, pv.up_to, pw.below, upto_is_below v w lt xs)

pub one_percentile : (percent : ℕ) (xs : List ℕ) (v w : ℕ) → IsPercentile percent xs v → IsPercentile percent xs w → v ≡ w
one_percentile percent xs v w pv pw = omega (arith, not_less percent xs v w pv pw, not_less percent xs w v pw pv)

-- ---- the same list in another order
pub other_order : (percent : ℕ) (xs sorted : List ℕ) (v : ℕ) → IsPermutation xs sorted → IsPercentile percent sorted v → IsPercentile percent xs v
other_order percent xs sorted v moved p = record {
  among = Contains-permutation sorted xs v (IsPermutation-sym xs sorted moved) p.among;
  below = subst (λ n. count_by (λ x. ltb x v) xs < rank percent n) (length_permutation xs sorted moved)
      (subst (λ n. n < rank percent (length sorted)) (sum_by-IsPermutation (λ x. cond (ltb x v) 1 0) xs sorted moved) p.below);
  up_to = subst (λ n. rank percent n ≤ count_by (λ x. leb x v) xs) (length_permutation xs sorted moved)
      (subst (λ n. rank percent (length sorted) ≤ n) (sum_by-IsPermutation (λ x. cond (leb x v) 1 0) xs sorted moved) p.up_to);
}

-- ---- the rank in an ascending list
count_more : (p : ℕ → Bool) (x : ℕ) (xs : List ℕ) (b : Bool) (n : ℕ) → p x ≡ b → count_by p xs ≡ n → count_by p (x ∷ xs) ≡ cond b 1 0 + n
count_more p x xs b n e h = omega (arith, sum_by-cons (λ y. cond (p y) 1 0) x xs, ap {B = ℕ} (λ c. cond c 1 0) e, h)

none_passes : (p : ℕ → Bool) (xs : List ℕ) → ((i : ℕ) → i < length xs → p (get_or xs i 0) ≡ false) → count_by p xs ≡ 0
none_passes p [] h = refl
none_passes p (x ∷ xs) h = count_more p x xs false 0 (h 0 (omega arith)) (none_passes p xs (λ i lt. h (suc i) (omega arith)))

all_pass : (p : ℕ → Bool) (xs : List ℕ) → ((i : ℕ) → i < length xs → p (get_or xs i 0) ≡ true) → count_by p xs ≡ length xs
all_pass p [] h = refl
all_pass p (x ∷ xs) h = omega (arith, count_more p x xs true (length xs) (h 0 (omega arith)) (all_pass p xs (λ i lt. h (suc i) (omega arith))))

not_below : (x v : ℕ) → v ≤ x → ltb x v ≡ false
not_below x v le = elim (cases_Bool (ltb x v)) [
  | inl e ↦ absurd (omega (arith, le, ltb-true x v e))
  | inr e ↦ e
]

few_below : (xs : List ℕ) (k : ℕ) → IsNonDecreasingBy (λ x. x) xs → k < length xs → count_by (λ x. ltb x (get_or xs k 0)) xs ≤ k
few_below xs k sorted lt =
    let v = get_or xs k 0 in
    let p = λ (x : ℕ). ltb x v in
    let behind : count_by p (drop k xs) ≡ 0 = none_passes p (drop k xs)
    (λ i inside. let within : k + i < length xs = omega (arith, inside, length-drop k xs) in
    rw (get_or-drop k xs i 0) (not_below (get_or xs (k + i) 0) v (sorted k (k + i) 0 (omega arith) within))) in
    omega (arith, sum_by-take-drop (λ x. cond (p x) 1 0) xs k, behind, count_by-le-length p (take k xs), length-take-le k xs (omega arith))

enough_upto : (xs : List ℕ) (k : ℕ) → IsNonDecreasingBy (λ x. x) xs → k < length xs → k + 1 ≤ count_by (λ x. leb x (get_or xs k 0)) xs
enough_upto xs k sorted lt =
    let v = get_or xs k 0 in
    let p = λ (x : ℕ). leb x v in
    let front : count_by p (take (k + 1) xs) ≡ length (take (k + 1) xs) = all_pass p (take (k + 1) xs)
    (λ i inside. let within : i < k + 1 = omega (arith, inside, length-take-le (k + 1) xs (omega arith)) in
    rw (get_or-take (k + 1) xs i 0 within) (le-leb (get_or xs i 0) v (sorted i k 0 (omega arith) lt))) in
    omega (arith, front, sum_by-take-le (λ x. cond (p x) 1 0) xs (k + 1), length-take-le (k + 1) xs (omega arith))

pub at_rank : (percent : ℕ) (xs : List ℕ) (k : ℕ) → IsNonDecreasingBy (λ x. x) xs → k < length xs → rank percent (length xs) ≡ k + 1 → IsPercentile percent xs (get_or xs k 0)
at_rank percent xs k sorted lt is = record {
  among = Contains-get_or xs k 0 lt;
  below = subst (λ n. count_by (λ x. ltb x (get_or xs k 0)) xs < n) (sym is) (omega (arith, few_below xs k sorted lt));
  up_to = subst (λ n. n ≤ count_by (λ x. leb x (get_or xs k 0)) xs) (sym is) (enough_upto xs k sorted lt);
}
