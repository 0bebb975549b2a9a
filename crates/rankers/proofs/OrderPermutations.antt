-- Lists that have each number below their length once.
use Rattle.std.proofs.Common.{◌≡◌, ◌≢◌, ℕ, ◌+◌, ◌-◌, ◌≤◌, ◌<◌, inl, inr, Bool, true, false, List, [], ◌∷◌, ◌++◌, length, get_or, set, take}
use Rattle.std.proofs.Common.{Contains, refl, sym, ap, subst, ◌∙◌, arith}
use Rattle.std.specs.Prelude.{All, AllPairs, ◌==◌, replicate}
use Rattle.std.specs.List.{list_any}
use Rattle.std.proofs.lemmas.Bool.{both_ways, cases_Bool, cases_eq, cases_lt}
use Rattle.std.proofs.lemmas.List.{get_or-replicate, get_or-set_other, get_or-set_same, get_or-take, get_or_default, length-replicate}
use Rattle.std.proofs.lemmas.List.{length-set, length-take, take_more}
use Rattle.std.proofs.lemmas.List.Elements.{All-contains, Contains-append_left, Contains-push, Contains-push_cases}
use Rattle.std.proofs.lemmas.List.Kept.{AllPairs-cons}
use Rattle.coflow_units.proofs.Sums.{all_of_members, any_has, any_in, first_or_tail}
use Rattle.class_rates.specs.Classes.{IsPermutation}
use Rattle.rankers.proofs.Permutations.{few_below}
use Rattle.rankers.specs.Scores.{IsFirstUnfit, IsNew, IsNotNew}

-- ---- as many numbers below n as n, without repetition, are all of them

pub all_below : (n : ℕ) (xs : List ℕ) → AllPairs (λ x y. x ≢ y) xs → ((q : ℕ) → Contains xs q → q < n) → length xs ≡ n → (c : ℕ) → c < n → Contains xs c
all_below n xs apart low count c lt = elim (cases_Bool (list_any (λ x. x == c) xs)) [
  | inl found ↦ any_has xs c found
  | inr missing ↦
      let out = λ (has : Contains xs c). both_ways (list_any (λ x. x == c) xs) missing (any_in xs c has) in
      let more = few_below n (c ∷ xs)
      (AllPairs-cons (λ x y. x ≢ y) c xs (all_of_members (λ y. c ≢ y) xs (λ y has e. out (subst (Contains xs) (sym e) has))) apart)
      (λ q has. elim (first_or_tail c xs q has) [
        | inl e ↦ omega (arith, e, lt)
        | inr later ↦ low q later
      ]) in
      absurd (omega (arith, more, count))
]

-- ---- places whose numbers are all new

at_before : (order : List ℕ) (i j d : ℕ) → i < j → j < length order → Contains (take j order) (get_or order i d)
at_before order i j d lt in' =
    (i, omega (arith, lt, in', length-take j order), get_or-take j order i (get_or order i d) lt ∙ get_or_default order i (get_or order i d) d (omega (arith, lt, in')))

pub new_is_permutation : (order : List ℕ) → ((k : ℕ) → k < length order → IsNew (length order) order k) → IsPermutation order
new_is_permutation order new =
    let n = length order in
    let apart : AllPairs (λ x y. x ≢ y) order = λ i j d lt in' e.
    (new j in').once (subst (Contains (take j order)) (e ∙ get_or_default order j d 0 in') (at_before order i j d lt in')) in
    let known : All (λ c. c < n) order = λ k d lt. subst (λ c. c < n) (get_or_default order k 0 d lt) (new k lt).known in
    record {
      distinct = apart;
      known = known;
      all = all_below n order apart (λ q has. All-contains (λ c. c < n) order q known has) refl;
    }

-- what was seen before a place
pub record IsSeen (order : List ℕ) (place : ℕ) (seen : List Bool) : Type 0 where
  pub count : length seen ≡ length order
  pub here : (c : ℕ) → c < length order → get_or seen c false ≡ true → Contains (take place order) c
  pub elsewhere : (c : ℕ) → c < length order → get_or seen c false ≡ false → Contains (take place order) c → ⊥
  pub new : (k : ℕ) → k < place → IsNew (length order) order k

pub none_seen : (order : List ℕ) (seen : List Bool) → seen ≡ replicate (length order) false → IsSeen order 0 seen
none_seen order seen is = record {
  count = ap (λ xs. length xs) is ∙ length-replicate (length order) false;
  here = λ c lt e. absurd (both_ways (get_or seen c false) (ap (λ xs. get_or xs c false) is ∙ get_or-replicate (length order) c false false lt) e);
  elsewhere = λ c lt e (k, in', at). absurd (omega (arith, in', length-take 0 order));
  new = λ k lt. absurd (omega (arith, lt));
}

pub seen_more : (order : List ℕ) (seen : List Bool) (place number : ℕ) → IsSeen order place seen → place < length order → number ≡ get_or order place 0 →
    number < length order → get_or seen number false ≡ false → IsSeen order (place + 1) (set seen number true)
seen_more order seen place number before lt is known new =
    let here : number < length seen = omega (arith, known, before.count) in
    let taken : take (place + 1) order ≡ take place order ++ number ∷ [] = take_more order place 0 lt ∙ ap (λ x. take place order ++ x ∷ []) (sym is) in
    record {
      count = length-set seen number true ∙ before.count;
      here = λ c in' e. subst (λ xs. Contains xs c) (sym taken) (elim (cases_eq number c) [
        | inl same ↦ subst (Contains (take place order ++ number ∷ [])) same (Contains-push (take place order) number)
        | inr other ↦ Contains-append_left (take place order) (number ∷ []) c (before.here c in' (sym (get_or-set_other seen number c true false (λ e. other (sym e))) ∙ e))
      ]);
      elsewhere = λ c in' e has. elim (cases_eq number c) [
        | inl same ↦ both_ways (get_or (set seen number true) c false) e (ap (λ k. get_or (set seen number true) k false) (sym same) ∙ get_or-set_same seen number true false here)
        | inr other ↦ elim (Contains-push_cases (take place order) number c (subst (λ xs. Contains xs c) taken has)) [
          | inl old ↦ before.elsewhere c in' (sym (get_or-set_other seen number c true false (λ e. other (sym e))) ∙ e) old
          | inr same ↦ other same
        ]
      ];
      new = λ k upto. elim (cases_lt k place) [
        | inl old ↦ before.new k old
        | inr ge ↦
            let e : place ≡ k = omega (arith, upto, ge) in
            subst (IsNew (length order) order) e (record {
              known = subst (λ x. x < length order) is known;
              once = λ has. before.elsewhere number known new (subst (Contains (take place order)) (sym is) has);
            })
      ];
    }

at_place : (order : List ℕ) (place : ℕ) → IsNotNew (length order) order place → IsNotNew (length order) order (place + 1 - 1)
at_place order place not = let e : place ≡ place + 1 - 1 = omega arith in subst (IsNotNew (length order) order) e not

pub unknown_unfit : (order : List ℕ) (seen : List Bool) (place number : ℕ) → IsSeen order place seen → place < length order → number ≡ get_or order place 0 →
    length order ≤ number → IsFirstUnfit (length order) order (place + 1)
unknown_unfit order seen place number before lt is high = record {
  counted = omega arith;
  inside = omega (arith, lt);
  unfit = at_place order place (inl (subst (λ x. length order ≤ x) is high));
  before = λ k lt. before.new k (omega (arith, lt));
}

pub repeated_unfit : (order : List ℕ) (seen : List Bool) (place number : ℕ) → IsSeen order place seen → place < length order → number ≡ get_or order place 0 →
    number < length order → get_or seen number false ≡ true → IsFirstUnfit (length order) order (place + 1)
repeated_unfit order seen place number before lt is known old = record {
  counted = omega arith;
  inside = omega (arith, lt);
  unfit = at_place order place (inr (subst (Contains (take place order)) is (before.here number known old)));
  before = λ k lt. before.new k (omega (arith, lt));
}
