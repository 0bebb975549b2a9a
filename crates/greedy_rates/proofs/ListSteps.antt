-- The flows at the ingress ports, one after another.
use Rattle.std.proofs.Common.{◌≡◌, ◌≢◌, ℕ, ◌+◌, ◌≤◌, ◌<◌, inl, inr, List, [], ◌∷◌, ◌++◌, Option, Some, None, length, get_or, set, take, min, false, true≢false, Contains, sym}
use Rattle.std.proofs.Common.{ap, subst, ◌∙◌, arith}
use Rattle.std.specs.Prelude.{Any, All, ◌==◌}
use Rattle.std.proofs.lemmas.Bool.{cases_lt}
use Rattle.std.proofs.lemmas.List.{get_or_default, take_more, take_more_set}
use Rattle.std.proofs.lemmas.List.Elements.{All-push, All-weaker, Contains-push, Contains-push_cases, Contains-append_left, Contains-get_or}
use Rattle.std.proofs.lemmas.List.Quantifiers.{all_pairs_push}
use Rattle.std.specs.List.Sorted.{IsPermutation, IsSorted, IsStrictlyIncreasing}
use Rattle.std.specs.Ordering.{nat_cmp}
use Rattle.std.proofs.Math.Dec.{eqb}
use Rattle.std.proofs.lemmas.Bool.Decides.{Decides-eqb}
use Rattle.std.proofs.lemmas.List.Sorted.{Contains-permutation, IsPermutation-sym, IsNonDecreasingBy-from_sort}
use Rattle.std.proofs.lemmas.Map.Keys.{IsDistinct-IsPermutation, IsStrictlyIncreasing-from_distinct}
use Rattle.std.proofs.lemmas.Map.Made.{IsDistinct-from_AllPairs}
use Rattle.coflow_units.proofs.Sums.{nothing_in, pairs_from_apart, rising_apart}
use Rattle.coflow_units.proofs.Bools.{flips}
use Rattle.greedy_rates.specs.Room.{flow_at_ingress}
use Rattle.greedy_rates.specs.Pass.{IsListing}
use Rattle.greedy_rates.proofs.PassSteps.{not_none, same_some}

pub none_listed : (at : List (Option ℕ)) → IsListing at 0 []
none_listed at = record {
  from = λ f has. absurd (nothing_in f has);
  all = λ p f lt e. absurd (omega (arith, lt));
  once = λ i j d less lt. absurd (omega arith);
}

pub list_skips : (at : List (Option ℕ)) (n : ℕ) (listed : List ℕ) → flow_at_ingress at n ≡ None → IsListing at n listed → IsListing at (n + 1) listed
list_skips at n listed none so_far = record {
  from = λ f has. let (p, lt, e) = so_far.from f has in (p, omega (arith, lt), e);
  all = λ p f lt e. elim (cases_lt p n) [
    | inl less ↦ so_far.all p f less e
    | inr more ↦ let here : p ≡ n = omega (arith, lt, more) in absurd (not_none (flow_at_ingress at n) f none (ap (flow_at_ingress at) (sym here) ∙ e))
  ];
  once = so_far.once;
}

list_grows : (at : List (Option ℕ)) (n f : ℕ) (listed : List ℕ) → ((p q g : ℕ) → flow_at_ingress at p ≡ Some g → flow_at_ingress at q ≡ Some g → p ≡ q) →
    flow_at_ingress at n ≡ Some f → IsListing at n listed → IsListing at (n + 1) (listed ++ f ∷ [])
list_grows at n f listed one some so_far = record {
  from = λ g has. elim (Contains-push_cases listed f g has) [
    | inl old ↦ let (p, lt, e) = so_far.from g old in (p, omega (arith, lt), e)
    | inr same ↦ (n, omega arith, some ∙ ap (λ (x : ℕ). Some x) same)
  ];
  all = λ p g lt e. elim (cases_lt p n) [
    | inl less ↦ Contains-append_left listed (f ∷ []) g (so_far.all p g less e)
    | inr more ↦
        let here : p ≡ n = omega (arith, lt, more) in
        let same : f ≡ g = same_some f g (sym some ∙ ap (flow_at_ingress at) (sym here) ∙ e) in
        subst (λ (x : ℕ). Contains (listed ++ f ∷ []) x) same (Contains-push listed f)
  ];
  once = all_pairs_push (λ (x : ℕ) (y : ℕ). x ≢ y) listed f so_far.once (λ k d lt same.
      let (p, less, e) = so_far.from (get_or listed k d) (Contains-get_or listed k d lt) in
      absurd (omega (arith, less, one p n f (e ∙ ap (λ (x : ℕ). Some x) same) some)));
}

pub list_takes : (at : List (Option ℕ)) (n count f : ℕ) (listed : List ℕ) → ((p q g : ℕ) → flow_at_ingress at p ≡ Some g → flow_at_ingress at q ≡ Some g → p ≡ q) →
    flow_at_ingress at n ≡ Some f → count < length listed → IsListing at n (take count listed) →
    IsListing at (n + 1) (take (count + 1) (set listed count f))
list_takes at n count f listed one some lt so_far =
    subst (λ (xs : List ℕ). IsListing at (n + 1) xs) (sym (take_more_set listed count f lt)) (list_grows at n f (take count listed) one some so_far)

-- ---- the same list, sorted

pub sorted_rises : (at : List (Option ℕ)) (n : ℕ) (listed sorted : List ℕ) → IsListing at n listed → IsPermutation listed sorted → IsSorted nat_cmp sorted →
    IsStrictlyIncreasing sorted
sorted_rises at n listed sorted list moved ascends =
    IsStrictlyIncreasing-from_distinct sorted (IsNonDecreasingBy-from_sort (λ (x : ℕ). x) sorted ascends)
    (IsDistinct-IsPermutation eqb flips listed sorted moved (IsDistinct-from_AllPairs Decides-eqb listed list.once))

pub sorted_lists : (at : List (Option ℕ)) (n : ℕ) (listed sorted : List ℕ) → IsListing at n listed → IsPermutation listed sorted → IsStrictlyIncreasing sorted →
    IsListing at n sorted
sorted_lists at n listed sorted list moved rises = record {
  from = λ f has. list.from f (Contains-permutation sorted listed f (IsPermutation-sym listed sorted moved) has);
  all = λ p f lt e. Contains-permutation listed sorted f moved (list.all p f lt e);
  once = pairs_from_apart sorted (rising_apart sorted rises);
}

-- ---- the least so far

pub least_below : (left granted : List ℕ) (i least next : ℕ) → i < length granted → next ≡ min least (get_or left (get_or granted i 0) 0) →
    All (λ (f : ℕ). least ≤ get_or left f 0) (take i granted) → All (λ (f : ℕ). next ≤ get_or left f 0) (take (i + 1) granted)
least_below left granted i least next lt is so_far = subst (λ (xs : List ℕ). All (λ (f : ℕ). next ≤ get_or left f 0) xs) (sym (take_more granted i 0 lt))
    (All-push (λ (f : ℕ). next ≤ get_or left f 0) (take i granted) (get_or granted i 0)
    (All-weaker (λ (f : ℕ). least ≤ get_or left f 0) (λ (f : ℕ). next ≤ get_or left f 0) (λ f le. omega (arith, le, is)) (take i granted) so_far) (omega (arith, is)))

pub least_reached : (left granted : List ℕ) (i least next : ℕ) → i < length granted → next ≡ min least (get_or left (get_or granted i 0) 0) →
    Any (λ (f : ℕ). get_or left f 0 ≡ least) granted → Any (λ (f : ℕ). get_or left f 0 ≡ next) granted
least_reached left granted i least next lt is (k, x, in', at, e) = elim (cases_lt (get_or left (get_or granted i 0) 0) least) [
  | inl less ↦ (i, get_or granted i 0, lt, get_or_default granted i (get_or granted i 0) 0 lt, omega (arith, less, is))
  | inr more ↦ (k, x, in', at, omega (arith, more, e, is))
]

pub not_nothing : (xs : List ℕ) → (length xs == 0) ≡ false → xs ≡ [] → ⊥
not_nothing xs some e = true≢false (sym (ap (λ (ys : List ℕ). length ys == 0) e) ∙ some)
