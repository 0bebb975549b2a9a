-- What an answer is worth, and what a ranker is told of it, is one.
use Rattle.std.proofs.Common.{◌≡◌, ℕ, ◌+◌, ◌-◌, ◌<◌, inl, inr, List, [], ◌∷◌, length, get_or, sym, ap, subst, ◌∙◌, arith}
use Rattle.std.proofs.lemmas.Bool.{cases_lt}
use Rattle.std.proofs.lemmas.List.{get_or-take, get_or_default, length-take}
use Rattle.coflow_units.specs.Completion.{cost}
use Rattle.coflow_units.specs.Flows.{Instance}
use Rattle.coflow_units.proofs.ServeLaws.{one_served}
use Rattle.class_rates.specs.Classes.{IsPermutation}
use Rattle.rankers.specs.declared.row.Row.{Row}
use Rattle.rankers.specs.declared.row.Scored.{Scored}
use Rattle.rankers.specs.declared.row.Scored.TheVariants.{Cost, Unfit}
use Rattle.rankers.specs.FactsTold.{FactsTold}
use Rattle.rankers.specs.Meaning.{Meaning, after_question, answer_of}
use Rattle.rankers.specs.Rounds.{IsRounds, IsRowsFrom, IsToldOf, after_completions}
use Rattle.rankers.specs.Scores.{IsFirstUnfit, IsNew, IsNotNew, IsScore, IsServedOrder}

new_or_not : (n : ℕ) (order : List ℕ) (k : ℕ) → IsNew n order k → IsNotNew n order k → ⊥
new_or_not n order k new (inl high) = omega (arith, new.known, high)
new_or_not n order k new (inr has) = new.once has

place_one : (n : ℕ) (order : List ℕ) (p q : ℕ) → IsFirstUnfit n order p → IsFirstUnfit n order q → p ≡ q
place_one n order p q u v = elim (cases_lt p q) [
  | inl lt ↦ absurd (new_or_not n order (p - 1) (v.before (p - 1) (omega (arith, lt, u.counted))) u.unfit)
  | inr ge ↦ elim (cases_lt q p) [
    | inl lt ↦ absurd (new_or_not n order (q - 1) (u.before (q - 1) (omega (arith, lt, v.counted))) v.unfit)
    | inr le ↦ omega (arith, ge, le)
  ]
]

-- in an order each number is new
each_new : (order : List ℕ) (k : ℕ) → IsPermutation order → k < length order → IsNew (length order) order k
each_new order k permutation lt = record {
  known = permutation.known k 0 lt;
  once = λ (j, in', at).
      let before : j < k = omega (arith, in', length-take k order) in
      let d = get_or order k 0 in
      permutation.distinct j k d before lt (sym (get_or-take k order j d before) ∙ at ∙ get_or_default order k 0 d lt);
}

pub order_fits : (n : ℕ) (order : List ℕ) (place : ℕ) → length order ≡ n → IsPermutation order → IsFirstUnfit n order place → ⊥
order_fits n order place count permutation unfit =
    let new = each_new order (place - 1) permutation (omega (arith, unfit.counted, unfit.inside)) in
    new_or_not n order (place - 1) (subst (λ k. IsNew k order (place - 1)) count new) unfit.unfit

pub fits_nowhere_unfit : (i : Instance) (order : List ℕ) (slots : List (List ℕ)) (place : ℕ) → IsServedOrder i order slots → IsFirstUnfit (length i.coflows) order place → ⊥
fits_nowhere_unfit i order slots place served unfit = order_fits (length i.coflows) order place served.count served.permutation unfit

pub score_one : (i : Instance) (order : List ℕ) (a b : Scored) → IsScore i order a → IsScore i order b → a ≡ b
score_one i order (Cost x) (Cost y) (s, so, e) (t, to, f) =
    let same : s ≡ t = one_served i.flows order s t so.served to.served in
    ap Cost (e ∙ ap (cost i.flows i.weight i.coflows) same ∙ sym f)
score_one i order (Cost x) (Unfit q) (s, so, e) v = absurd (fits_nowhere_unfit i order s q so v)
score_one i order (Unfit p) (Cost y) u (t, to, f) = absurd (fits_nowhere_unfit i order t p to u)
score_one i order (Unfit p) (Unfit q) u v = ap Unfit (place_one (length i.coflows) order p q u v)

pub told_one : (i : Instance) (order : List ℕ) (m a b : Meaning) → IsToldOf i order m a → IsToldOf i order m b → a ≡ b
told_one i order m a b (inl (s, so, e)) (inl (t, to, f)) =
    let same : s ≡ t = one_served i.flows order s t so.served to.served in
    e ∙ ap (after_completions i.flows (length i.coflows) m) same ∙ sym f
told_one i order m a b (inl (s, so, e)) (inr (q, v, f)) = absurd (fits_nowhere_unfit i order s q so v)
told_one i order m a b (inr (p, u, e)) (inl (t, to, f)) = absurd (fits_nowhere_unfit i order t p to u)
told_one i order m a b (inr (p, u, e)) (inr (q, v, f)) = e ∙ sym f

pub first_one : (i : Instance) (facts : FactsTold) (m : Meaning) (first second other_first other_second : Scored) → IsRounds i facts m first second →
    IsRounds i facts m other_first other_second → first ≡ other_first
first_one i facts m first second other_first other_second a b = score_one i (answer_of m facts) first other_first a.at_first b.at_first

pub second_one : (i : Instance) (facts : FactsTold) (m : Meaning) (first second other_first other_second : Scored) → IsRounds i facts m first second →
    IsRounds i facts m other_first other_second → second ≡ other_second
second_one i facts m first second other_first other_second a b =
    let same : a.later ≡ b.later = told_one i (answer_of m facts) (after_question m facts) a.later b.later a.told b.told in
    score_one i (answer_of b.later facts) second other_second (subst (λ l. IsScore i (answer_of l facts) second) same a.at_last) b.at_last

pub rows_one : (i : Instance) (facts : FactsTold) (index : ℕ) (ms : List Meaning) (a b : List Row) → IsRowsFrom i facts index ms a → IsRowsFrom i facts index ms b → a ≡ b
rows_one i facts index [] a b ra rb = ra ∙ sym rb
rows_one i facts index (m ∷ ms) a b (f, s, rest, r, e, more) (f', s', rest', r', e', more') =
    e ∙ ap (λ (x : Scored). record { index = index; round = 1; result = x } ∷ record { index = index; round = 2; result = s } ∷ rest) (first_one i facts m f s f' s' r r')
    ∙ ap (λ (x : Scored). record { index = index; round = 1; result = f' } ∷ record { index = index; round = 2; result = x } ∷ rest) (second_one i facts m f s f' s' r r')
    ∙ ap (λ (xs : List Row). record { index = index; round = 1; result = f' } ∷ record { index = index; round = 2; result = s' } ∷ xs)
    (rows_one i facts (index + 1) ms rest rest' more more') ∙ sym e'
