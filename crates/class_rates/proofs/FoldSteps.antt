-- The classes of an order, place by place, and their class order, class by class.
use Rattle.std.proofs.Common.{◌≡◌, ◌≢◌, ℕ, ◌+◌, ◌≤◌, ◌<◌, inl, inr, Bool, true, false}
use Rattle.std.proofs.Common.{List, [], ◌∷◌, ◌++◌, length, get_or, take, Contains, sym, ap, ◌∙◌, arith, append_assoc, append-nil}
use Rattle.std.specs.Prelude.{All, AllPairs, ◌==◌, ◌^◌, set, sum_by, if◌then◌else◌}
use Rattle.std.specs.List.{filter, range_with_len}
use Rattle.std.proofs.lemmas.Bool.{cases_lt, eq-eqb, eqb-true, ne_eqb}
use Rattle.std.proofs.lemmas.List.{get_or-set_other, get_or-set_same, get_or_default}
use Rattle.std.proofs.lemmas.List.Elements.{All-contains, Contains-append_cases, Contains-append_left, Contains-append_right, filter-append}
use Rattle.std.proofs.lemmas.List.FromFn.{get_or-range_with_len, length-range_with_len}
use Rattle.coflow_units.specs.Grants.{place_in}
use Rattle.coflow_units.proofs.LinePlaces.{at_place_zero, place_of_member}
use Rattle.coflow_units.proofs.Lists.{filter_in, keeps, number_below, number_in}
use Rattle.coflow_units.proofs.Sums.{all_of_members, nothing_in}
use Rattle.slot_switch.proofs.Ranges.{range_more}
use Rattle.class_rates.specs.Classes.{ClassBefore, IsClassOrder, IsPermutation, class_behind, class_by, size_before}
use Rattle.class_rates.proofs.ClassOrders.{before_as}
use Rattle.class_rates.proofs.PairLists.{filter_pairs, pairs_append, pairs_weaker}
use Rattle.class_rates.proofs.Parts.{behind_within}

-- the class at a place of an order that is folded by these sizes
abbrev pub class_of_place : (ℕ → ℕ) → List ℕ → ℕ → ℕ → ℕ
class_of_place size order classes place = class_behind (sum_by size order) classes (sum_by size (take place order))

-- the classes of the first places are written at their coflows
abbrev pub HasClassesUpTo : (ℕ → ℕ) → List ℕ → ℕ → List ℕ → ℕ → Type 0
HasClassesUpTo size order classes numbers n = (k : ℕ) → k < n → get_or numbers (get_or order k 0) 0 ≡ class_of_place size order classes k

pub class_more : (size : ℕ → ℕ) (order numbers : List ℕ) (classes place at class : ℕ) → IsPermutation order → length numbers ≡ length order → place < length order →
    at ≡ get_or order place 0 → class ≡ class_of_place size order classes place → HasClassesUpTo size order classes numbers place →
    HasClassesUpTo size order classes (set numbers at class) (place + 1)
class_more size order numbers classes place at class permutation long lt here is so_far k low = elim (cases_lt k place) [
  | inl before ↦
      let other : get_or order k 0 ≢ at = λ e. permutation.distinct k place 0 before lt (e ∙ here) in
      get_or-set_other numbers at (get_or order k 0) class 0 other ∙ so_far k before
  | inr upto ↦
      let same : k ≡ place = omega (arith, low, upto) in
      let inside : at < length numbers = omega (arith, here, long, permutation.known place 0 lt) in
      ap (λ j. get_or (set numbers at class) (get_or order j 0) 0) same ∙ ap (λ j. get_or (set numbers at class) j 0) (sym here) ∙
      get_or-set_same numbers at class 0 inside ∙ is ∙ ap (class_of_place size order classes) (sym same)
]

-- the class of a coflow by its number and by its place
pub class_at_place : (size : ℕ → ℕ) (order numbers : List ℕ) (classes c : ℕ) → HasClassesUpTo size order classes numbers (length order) → Contains order c →
    get_or numbers c 0 ≡ class_by size order classes c
class_at_place size order numbers classes c written has =
    let lt = place_of_member order c has in
    ap (λ j. get_or numbers j 0) (sym (at_place_zero order c lt)) ∙ written (place_in order c) lt

pub all_within : (size : ℕ → ℕ) (order numbers : List ℕ) (classes : ℕ) → IsPermutation order → 1 ≤ classes → length numbers ≡ length order →
    ((c : ℕ) → Contains order c → get_or numbers c 0 ≡ class_by size order classes c) → All (λ q. (1 ≤ q) × (q ≤ classes)) numbers
all_within size order numbers classes permutation some long written k d lt =
    let is : get_or numbers k d ≡ class_by size order classes k = get_or_default numbers k d 0 lt ∙ written k (permutation.all k (omega (arith, lt, long))) in
    let (low, high) = behind_within (sum_by size order) classes (size_before size order k) some in
    (omega (arith, is, low), omega (arith, is, high))

-- the numbers of a type of 32 bits are few
pub few_numbers : (order : List ℕ) → IsPermutation order → ((k : ℕ) → get_or order k 0 < 2 ^ 32) → length order ≤ 2 ^ 32
few_numbers order permutation small = elim (cases_lt 4294967296 (length order)) [
  | inl many ↦ let (k, lt, at) = permutation.all 4294967296 many in absurd (omega (arith, at, get_or_default order k 4294967296 0 lt, small k))
  | inr few ↦ few
]

abbrev if_chosen : Bool → ℕ → List ℕ
if_chosen b n = if b then n ∷ [] else []

-- one coflow more
pub chosen_more : (p : ℕ → Bool) (n : ℕ) → p n ≡ true → filter p (range_with_len 0 (n + 1)) ≡ filter p (range_with_len 0 n) ++ n ∷ []
chosen_more p n e = ap (filter p) (range_more 0 n n (omega arith)) ∙ filter-append p (range_with_len 0 n) (n ∷ []) ∙
    ap (λ b. filter p (range_with_len 0 n) ++ (if_chosen b n)) e

pub chosen_not : (p : ℕ → Bool) (n : ℕ) → p n ≡ false → filter p (range_with_len 0 (n + 1)) ≡ filter p (range_with_len 0 n)
chosen_not p n e = ap (filter p) (range_more 0 n n (omega arith)) ∙ filter-append p (range_with_len 0 n) (n ∷ []) ∙
    ap (λ b. filter p (range_with_len 0 n) ++ (if_chosen b n)) e ∙ append-nil (filter p (range_with_len 0 n))

-- the coflows of the first classes, by class and then by number
pub record IsOrderedUpTo (numbers : List ℕ) (q : ℕ) (order : List ℕ) : Type 0 where
  pub sorted : AllPairs (ClassBefore (λ c. get_or numbers c 0)) order
  pub inside : (c : ℕ) → Contains order c → c < length numbers
  pub low : (c : ℕ) → Contains order c → get_or numbers c 0 ≤ q
  pub all : (c : ℕ) → c < length numbers → get_or numbers c 0 ≤ q → Contains order c

pub none_ordered : (numbers : List ℕ) (classes : ℕ) → All (λ q. (1 ≤ q) × (q ≤ classes)) numbers → IsOrderedUpTo numbers 0 []
none_ordered numbers classes within = record {
  sorted = λ i j d lt in'. absurd (omega arith);
  inside = λ c has. absurd (nothing_in c has);
  low = λ c has. absurd (nothing_in c has);
  all = λ c lt low. absurd (omega (arith, low, (within c 0 lt).0));
}

number_order : (class : ℕ → ℕ) (q a n : ℕ) (R : ℕ → ℕ → Type 0) → ((x y : ℕ) → x < y → R x y) → AllPairs R (range_with_len a n)
number_order class q a n R rises i j d lt in' =
    let len = length-range_with_len a n in
    let hi : i < n = omega (arith, lt, in', len) in
    let hj : j < n = omega (arith, in', len) in
    rises _ _ (omega (arith, lt, get_or-range_with_len a n i d hi, get_or-range_with_len a n j d hj))

pub class_pushed : (numbers order : List ℕ) (q class : ℕ) → class ≡ q + 1 → IsOrderedUpTo numbers q order →
    IsOrderedUpTo numbers (q + 1) (order ++ filter (λ c. get_or numbers c 0 == class) (range_with_len 0 (length numbers)))
class_pushed numbers order q class is before =
    let p = λ (c : ℕ). get_or numbers c 0 == class in
    let range = range_with_len 0 (length numbers) in
    let new = filter p range in
    let of = λ (c : ℕ) (has : Contains new c). eqb-true (get_or numbers c 0) class (filter_in p range c has).1 in
    let known = λ (c : ℕ) (has : Contains new c). number_below 0 (length numbers) c (filter_in p range c has).0 in
    let rising : AllPairs (λ x y. x < y) new = filter_pairs (λ x y. x < y) p range (number_order (λ c. c) 0 0 (length numbers) (λ x y. x < y) (λ x y lt. lt)) in
    record {
      sorted = pairs_append (ClassBefore (λ c. get_or numbers c 0)) order new before.sorted
          (pairs_weaker (λ x y. x < y) (ClassBefore (λ c. get_or numbers c 0)) new (λ x y hx hy lt. inr (of x hx ∙ sym (of y hy), lt)) rising)
          (λ x y hx hy. inl (omega (arith, before.low x hx, of y hy, is)));
      inside = λ c has. elim (Contains-append_cases order new c has) [
        | inl old ↦ before.inside c old
        | inr here ↦ omega (arith, known c here)
      ];
      low = λ c has. elim (Contains-append_cases order new c has) [
        | inl old ↦ omega (arith, before.low c old)
        | inr here ↦ omega (arith, of c here, is)
      ];
      all = λ c lt low. elim (cases_lt q (get_or numbers c 0)) [
        | inl high ↦
            let e : get_or numbers c 0 ≡ class = omega (arith, high, low, is) in
            Contains-append_right order new c (keeps p range c (number_in 0 (length numbers) c (omega arith) (omega (arith, lt))) (eq-eqb (get_or numbers c 0) class e))
        | inr old ↦ Contains-append_left order new c (before.all c lt old)
      ];
    }

pub all_ordered : (numbers order : List ℕ) (n classes : ℕ) → All (λ q. (1 ≤ q) × (q ≤ classes)) numbers → classes ≤ n → IsOrderedUpTo numbers n order →
    IsClassOrder (range_with_len 0 (length numbers)) (λ c. get_or numbers c 0) order
all_ordered numbers order n classes within le done = record {
  sorted = done.sorted;
  coflow = all_of_members (Contains (range_with_len 0 (length numbers))) order (λ c has. number_in 0 (length numbers) c (omega arith) (omega (arith, done.inside c has)));
  all = λ c has.
      let lt : c < length numbers = omega (arith, number_below 0 (length numbers) c has) in
      done.all c lt (omega (arith, le, (within c 0 lt).1));
}

-- the class order by numbers is that of the order
pub order_folded : (order numbers by : List ℕ) (class : ℕ → ℕ) → IsPermutation order → length numbers ≡ length order →
    ((c : ℕ) → Contains order c → get_or numbers c 0 ≡ class c) →
    IsClassOrder (range_with_len 0 (length numbers)) (λ c. get_or numbers c 0) by → IsClassOrder order class by
order_folded order numbers by class permutation long written is =
    let known = λ (c : ℕ) (has : Contains by c).
    permutation.all c (omega (arith, long, number_below 0 (length numbers) c (All-contains (Contains (range_with_len 0 (length numbers))) by c is.coflow has))) in
    record {
      sorted = pairs_weaker (ClassBefore (λ c. get_or numbers c 0)) (ClassBefore class) by
          (λ x y hx hy. before_as (λ c. get_or numbers c 0) class x y (written x (known x hx)) (written y (known y hy)))
          is.sorted;
      coflow = all_of_members (Contains order) by known;
      all = λ c has. is.all c (number_in 0 (length numbers) c (omega arith) (omega (arith, long, All-contains (λ x. x < length order) order c permutation.known has)));
    }

-- one coflow more of the class
pub pushed : (numbers old : List ℕ) (class coflow : ℕ) {order new : List ℕ} → order ≡ old ++ filter (λ c. get_or numbers c 0 == class) (range_with_len 0 coflow) →
    get_or numbers coflow 0 ≡ class → new ≡ order ++ coflow ∷ [] →
    new ≡ old ++ filter (λ c. get_or numbers c 0 == class) (range_with_len 0 (coflow + 1))
pushed numbers old class coflow so_far e is =
    let p = λ (c : ℕ). get_or numbers c 0 == class in
    is ∙ ap (λ (xs : List ℕ). xs ++ coflow ∷ []) so_far ∙ append_assoc old (filter p (range_with_len 0 coflow)) (coflow ∷ []) ∙
    ap (λ (xs : List ℕ). old ++ xs) (sym (chosen_more p coflow (eq-eqb (get_or numbers coflow 0) class e)))

pub not_pushed : (numbers old : List ℕ) (class coflow : ℕ) {order new : List ℕ} → order ≡ old ++ filter (λ c. get_or numbers c 0 == class) (range_with_len 0 coflow) →
    get_or numbers coflow 0 ≢ class → new ≡ order →
    new ≡ old ++ filter (λ c. get_or numbers c 0 == class) (range_with_len 0 (coflow + 1))
not_pushed numbers old class coflow so_far e is =
    let p = λ (c : ℕ). get_or numbers c 0 == class in
    is ∙ so_far ∙ ap (λ (xs : List ℕ). old ++ xs) (sym (chosen_not p coflow (ne_eqb (get_or numbers coflow 0) class e)))
