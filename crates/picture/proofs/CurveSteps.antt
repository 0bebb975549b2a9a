-- The curve, one slot more.
use Rattle.std.proofs.Common.{◌≡◌, ◌≢◌, ℕ, ◌+◌, ◌≤◌, ◌<◌, inl, inr, Bool, true, false, cond, leb, leb-true, le-leb, List}
use Rattle.std.proofs.Common.{[], ◌∷◌, ◌++◌, length, get_or, take, map, Contains, refl, sym, ap, subst, ◌∙◌, arith, zero, suc}
use Rattle.std.specs.Prelude.{All, AllPairs, IsPermutation, count_by}
use Rattle.std.specs.List.Sorted.{IsNonDecreasingBy}
use Rattle.std.proofs.lemmas.Bool.{cases_Bool, cases_eq}
use Rattle.std.proofs.lemmas.List.{map_push, take_all}
use Rattle.std.proofs.lemmas.List.Elements.{All-contains, All-push, All-weaker, Contains-append_left, Contains-get_or, Contains-push}
use Rattle.std.proofs.lemmas.List.Quantifiers.{all_pairs_push}
use Rattle.std.proofs.lemmas.List.Sorted.{Contains-permutation, IsPermutation-sym, sum_by-IsPermutation}
use Rattle.std.proofs.lemmas.List.Sums.{sum_by-cons}
use Rattle.coflow_units.proofs.Sums.{first_or_tail, in_first, in_tail, nothing_in}
use Rattle.schedule_model.proofs.RepeatSteps.{in_more}
use Rattle.picture.specs.declared.value.Step.{Step}
use Rattle.picture.specs.Curve.{ComesAgain, IsCurve, IsStep, done_by}
use Rattle.picture.proofs.OneList.{one_list}

abbrev pub step_slots : List Step → List ℕ
step_slots steps = map (λ (s : Step). s.slot) steps

abbrev Sooner : Step → Step → Type 0
Sooner a b = a.slot < b.slot

abbrev Lower : Step → Step → Type 0
Lower a b = a.done < b.done

-- ---- one curve
step_at : (steps : List Step) (slot : ℕ) → Contains (step_slots steps) slot → (s : Step) × Contains steps s × (s.slot ≡ slot)
step_at [] slot has = absurd (nothing_in slot has)
step_at (s ∷ steps) slot has = elim (first_or_tail s.slot (step_slots steps) slot has) [
  | inl e ↦ (s, in_first s steps, e)
  | inr h ↦ let (x, in', e) = step_at steps slot h in (x, in_tail s steps x in', e)
]

abbrev step : ℕ → ℕ → Step
step slot done = record { slot = slot; done = done }

same_step : (ends : List ℕ) (a b : Step) → IsStep ends a → IsStep ends b → a.slot ≡ b.slot → a ≡ b
same_step ends a b sa sb e = ap (λ n. step n a.done) e ∙ ap (λ n. step b.slot n) (sa.done_is ∙ ap (done_by ends) e ∙ sym sb.done_is)

in_other : (ends : List ℕ) (a b : List Step) (s : Step) → IsCurve ends a → IsCurve ends b → Contains a s → Contains b s
in_other ends a b s ca cb has =
    let is : IsStep ends s = All-contains (IsStep ends) a s ca.each_step has in
    let (x, in', e) = step_at b s.slot (cb.all s.slot is.rises) in
    subst (Contains b) (same_step ends x s (All-contains (IsStep ends) b x cb.each_step in') is e) in'

strict : (ends : List ℕ) (a b : Step) → IsStep ends a → IsStep ends b → Sooner a b → Sooner b a → ⊥
strict ends a b sa sb ab ba = omega arith

pub one_curve : (ends : List ℕ) (a b : List Step) → IsCurve ends a → IsCurve ends b → a ≡ b
one_curve ends a b ca cb =
    one_list Sooner (IsStep ends) a b (strict ends) ca.each_step cb.each_step ca.ascending cb.ascending (λ s has. in_other ends a b s ca cb has)
    (λ s has. in_other ends b a s cb ca has)

-- ---- the same completions in another order
pub other_order : (ends sorted : List ℕ) (steps : List Step) → IsPermutation ends sorted → IsCurve sorted steps → IsCurve ends steps
other_order ends sorted steps moved curve = record {
  each_step = All-weaker (IsStep sorted) (IsStep ends) (λ s is. record {
    rises = Contains-permutation sorted ends s.slot (IsPermutation-sym ends sorted moved) is.rises;
    done_is = is.done_is ∙ sum_by-IsPermutation (λ end. cond (leb end s.slot) 1 0) ends sorted moved;
  }) steps curve.each_step;
  all = λ slot has. curve.all slot (Contains-permutation ends sorted slot moved has);
  ascending = curve.ascending;
  higher = curve.higher;
}

-- ---- how many are completed, in order
not_upto : (x t : ℕ) → t < x → leb x t ≡ false
not_upto x t lt = elim (cases_Bool (leb x t)) [
  | inl e ↦ absurd (omega (arith, lt, leb-true x t e))
  | inr e ↦ e
]

count_more : (x t : ℕ) (xs : List ℕ) (b : Bool) (n : ℕ) → leb x t ≡ b → count_by (λ e. leb e t) xs ≡ n → count_by (λ e. leb e t) (x ∷ xs) ≡ cond b 1 0 + n
count_more x t xs b n e h = omega (arith, sum_by-cons (λ y. cond (leb y t) 1 0) x xs, ap {B = ℕ} (λ c. cond c 1 0) e, h)

count_upto : (xs : List ℕ) (n t : ℕ) → n ≤ length xs → ((i : ℕ) → i < n → get_or xs i 0 ≤ t) → ((i : ℕ) → n ≤ i → i < length xs → t < get_or xs i 0) →
    count_by (λ e. leb e t) xs ≡ n
count_upto [] zero t le low high = refl
count_upto [] (suc n) t le low high = absurd (omega arith)
count_upto (x ∷ xs) zero t le low high =
    count_more x t xs false 0 (not_upto x t (high 0 (omega arith) (omega arith)))
    (count_upto xs 0 t (omega arith) (λ i lt. absurd (omega (arith, lt))) (λ i from lt. high (suc i) (omega arith) (omega arith)))
count_upto (x ∷ xs) (suc n) t le low high =
    count_more x t xs true n (le-leb x t (low 0 (omega arith)))
    (count_upto xs n t (omega arith) (λ i lt. low (suc i) (omega arith)) (λ i from lt. high (suc i) (omega arith) (omega arith)))
    ∙ omega arith

-- ---- the steps so far: of each slot but one that comes again
pub record CurveSoFar (ends : List ℕ) (k : ℕ) (steps : List Step) : Type 0 where
  pub each_step : All (IsStep ends) steps
  pub all : (slot : ℕ) → Contains (take k ends) slot → (k < length ends → slot ≢ get_or ends k 0) → Contains (step_slots steps) slot
  pub ascending : AllPairs Sooner steps
  pub higher : AllPairs Lower steps
  pub below : k < length ends → All (λ (s : Step). s.slot < get_or ends k 0) steps
  pub at_most : All (λ (s : Step). s.done ≤ k) steps

pub curve_begins : (ends : List ℕ) → CurveSoFar ends 0 []
curve_begins ends = record {
  each_step = λ k d lt. absurd (omega arith);
  all = λ slot has other. absurd (nothing_in slot has);
  ascending = λ i j d lt within. absurd (omega arith);
  higher = λ i j d lt within. absurd (omega arith);
  below = λ inside k d lt. absurd (omega arith);
  at_most = λ k d lt. absurd (omega arith);
}

pub curve_waits : (ends : List ℕ) (k : ℕ) (steps : List Step) → CurveSoFar ends k steps → k < length ends → ComesAgain ends k true → CurveSoFar ends (k + 1) steps
curve_waits ends k steps so_far lt again = record {
  each_step = so_far.each_step;
  all = λ slot has other. elim (in_more ends k slot lt has) [
    | inl h ↦ so_far.all slot h (λ inside e. other again.0 (e ∙ sym again.1))
    | inr e ↦ absurd (other again.0 (sym e ∙ sym again.1))
  ];
  ascending = so_far.ascending;
  higher = so_far.higher;
  below = λ inside. subst (λ n. All (λ (s : Step). s.slot < n) steps) (sym again.1) (so_far.below lt);
  at_most = All-weaker (λ (s : Step). s.done ≤ k) (λ (s : Step). s.done ≤ k + 1) (λ s le. omega (arith, le)) steps so_far.at_most;
}

in_new : (steps : List Step) (s : Step) (slot : ℕ) → s.slot ≡ slot → Contains (step_slots (steps ++ s ∷ [])) slot
in_new steps s slot e =
    subst (λ l. Contains l slot) (sym (map_push (λ (x : Step). x.slot) steps s))
    (subst (Contains (step_slots steps ++ s.slot ∷ [])) e (Contains-push (step_slots steps) s.slot))

in_old : (steps : List Step) (s : Step) (slot : ℕ) → Contains (step_slots steps) slot → Contains (step_slots (steps ++ s ∷ [])) slot
in_old steps s slot has =
    subst (λ l. Contains l slot) (sym (map_push (λ (x : Step). x.slot) steps s)) (Contains-append_left (step_slots steps) (s.slot ∷ []) slot has)

pub curve_rises : (ends : List ℕ) (k : ℕ) (steps : List Step) → IsNonDecreasingBy (λ end. end) ends → CurveSoFar ends k steps → k < length ends → ComesAgain ends k false →
    CurveSoFar ends (k + 1) (steps ++ record { slot = get_or ends k 0; done = k + 1 } ∷ [])
curve_rises ends k steps sorted so_far lt last =
    let slot_k = get_or ends k 0 in
    let s : Step = record { slot = slot_k; done = k + 1 } in
    let counted : done_by ends slot_k ≡ k + 1 =
    count_upto ends (k + 1) slot_k (omega (arith, lt)) (λ i before. sorted i k 0 (omega (arith, before)) lt)
    (λ i from inside. omega (arith, last (omega (arith, from, inside)), sorted (k + 1) i 0 from inside)) in
    record {
      each_step = All-push (IsStep ends) steps s so_far.each_step record { rises = Contains-get_or ends k 0 lt; done_is = sym counted };
      all = λ slot has other. elim (in_more ends k slot lt has) [
        | inl h ↦ elim (cases_eq slot slot_k) [
          | inl e ↦ in_new steps s slot (sym e)
          | inr apart ↦ in_old steps s slot (so_far.all slot h (λ inside. apart))
        ]
        | inr e ↦ in_new steps s slot e
      ];
      ascending = all_pairs_push Sooner steps s so_far.ascending (so_far.below lt);
      higher = all_pairs_push Lower steps s so_far.higher (λ i d inside. omega (arith, so_far.at_most i d inside));
      below = λ inside. All-push (λ (x : Step). x.slot < get_or ends (k + 1) 0) steps s
          (All-weaker (λ (x : Step). x.slot < slot_k) (λ (x : Step). x.slot < get_or ends (k + 1) 0) (λ x h. omega (arith, h, last inside)) steps (so_far.below lt)) (last inside);
      at_most = All-push (λ (x : Step). x.done ≤ k + 1) steps s
          (All-weaker (λ (x : Step). x.done ≤ k) (λ (x : Step). x.done ≤ k + 1) (λ x h. omega (arith, h)) steps so_far.at_most) (omega arith);
    }

pub curve_ends : (ends : List ℕ) (k : ℕ) (steps : List Step) → CurveSoFar ends k steps → length ends ≤ k → IsCurve ends steps
curve_ends ends k steps so_far le = record {
  each_step = so_far.each_step;
  all = λ slot has. so_far.all slot (subst (λ l. Contains l slot) (sym (take_all k ends le)) has) (λ inside. absurd (omega (arith, inside, le)));
  ascending = so_far.ascending;
  higher = so_far.higher;
}
