-- Classes along orders, and the class orders of two coflows.
use Rattle.std.proofs.Common.{◌≡◌, ℕ, ◌≤◌, ◌<◌, ◌⊎◌, inl, inr, List, [], ◌∷◌, length, take, Contains, refl, subst, ap, ◌∙◌, arith, min}
use Rattle.std.specs.Prelude.{sum_by}
use Rattle.std.proofs.lemmas.List.{length-take-le, take-take}
use Rattle.std.proofs.lemmas.List.Sums.{sum_by-take-le}
use Rattle.coflow_units.specs.Grants.{place_in}
use Rattle.coflow_units.proofs.LinePlaces.{place_of_member}
use Rattle.coflow_units.proofs.Sums.{all_of_members, first_or_tail, in_first, in_tail, nothing_in, sum_ones}
use Rattle.class_rates.specs.Classes.{ClassBefore, IsClassOrder, RisesAlong, class_behind, class_by, class_in, size_before}
use Rattle.class_rates.specs.Rows.{ClassOrders, folded}
use Rattle.class_rates.proofs.PairLists.{pairs_cons}
use Rattle.class_rates.proofs.Parts.{behind_before_the_end, behind_rises}

-- what comes later has as much before it, or more
before_rises : (size : ℕ → ℕ) (order : List ℕ) (a b : ℕ) → a ≤ b → sum_by size (take a order) ≤ sum_by size (take b order)
before_rises size order a b le =
    omega (arith, ap (sum_by size) (take-take a b order le), sum_by-take-le size (take b order) a)

pub rise_law : (size : ℕ → ℕ) (order : List ℕ) (classes : ℕ) → RisesAlong (class_by size order classes) order
rise_law size order classes c d has_c has_d le =
    behind_rises (sum_by size order) classes (size_before size order c) (size_before size order d) (before_rises size order (place_in order c) (place_in order d) le)

-- by count the coflows before one are as many as its place says
pub count_law : (order : List ℕ) (classes coflow : ℕ) → 1 ≤ classes → Contains order coflow → class_by (λ c. 1) order classes coflow ≡ class_in order classes coflow
count_law order classes coflow some has =
    let lt = place_of_member order coflow has in
    let before : size_before (λ c. 1) order coflow ≡ place_in order coflow = sum_ones (take (place_in order coflow) order) ∙ length-take-le (place_in order coflow) order (omega arith) in
    ap (λ n. class_behind n classes (size_before (λ c. 1) order coflow)) (sum_ones order) ∙ ap (class_behind (length order) classes) before ∙
    behind_before_the_end (length order) classes (place_in order coflow) lt some

only : (y c : ℕ) → Contains (y ∷ []) c → y ≡ c
only y c has = elim (first_or_tail y [] c has) [
  | inl e ↦ e
  | inr none ↦ absurd (nothing_in c none)
]

pair_order : (class : ℕ → ℕ) (coflows : List ℕ) (x y : ℕ) → ClassBefore class x y → ((c : ℕ) → Contains coflows c → (x ≡ c) ⊎ (y ≡ c)) → Contains coflows x → Contains coflows y →
    IsClassOrder coflows class (x ∷ y ∷ [])
pair_order class coflows x y before cases has_x has_y = record {
  sorted = pairs_cons (ClassBefore class) x (y ∷ []) (λ c has. subst (ClassBefore class x) (only y c has) before)
      (pairs_cons (ClassBefore class) y [] (λ c has. absurd (nothing_in c has)) (λ i j d lt in'. absurd (omega (arith, in'))));
  coflow = all_of_members (Contains coflows) (x ∷ y ∷ []) (λ c has. elim (first_or_tail x (y ∷ []) c has) [
    | inl e ↦ subst (Contains coflows) e has_x
    | inr later ↦ subst (Contains coflows) (only y c later) has_y
  ]);
  all = λ c has. elim (cases c has) [
    | inl e ↦ subst (Contains (x ∷ y ∷ [])) e (in_first x (y ∷ []))
    | inr e ↦ subst (Contains (x ∷ y ∷ [])) e (in_tail x (y ∷ []) y (in_first y []))
  ];
}

one_of_two : (x y c : ℕ) → Contains (x ∷ y ∷ []) c → (x ≡ c) ⊎ (y ≡ c)
one_of_two x y c has = elim (first_or_tail x (y ∷ []) c has) [
  | inl e ↦ inl e
  | inr later ↦ inr (only y c later)
]

turned : (x y c : ℕ) → (x ≡ c) ⊎ (y ≡ c) → (y ≡ c) ⊎ (x ≡ c)
turned x y c (inl e) = inr e
turned x y c (inr e) = inl e

pub orders_hold : ClassOrders
orders_hold =
    let low : folded 2 1 ≡ 1 = refl in
    let high : folded 2 0 ≡ 2 = refl in
    let first : Contains {X = ℕ} (0 ∷ 1 ∷ []) 0 = in_first 0 (1 ∷ []) in
    let second : Contains {X = ℕ} (0 ∷ 1 ∷ []) 1 = in_tail 0 (1 ∷ []) 1 (in_first 1 []) in
    record {
      two = pair_order (folded 2) (0 ∷ 1 ∷ []) 1 0 (inl (omega (arith, low, high))) (λ c has. turned 0 1 c (one_of_two 0 1 c has)) second first;
      one = pair_order (folded 1) (0 ∷ 1 ∷ []) 0 1 (inr (refl, omega arith)) (one_of_two 0 1) first second;
    }
