-- The served schedule is valid, and patient for its order.
use Rattle.std.proofs.Common.{◌≡◌, ℕ, ◌+◌, ◌≤◌, ◌<◌, ◌⊎◌, inl, inr, false, cond, List, [], length, get_or, take, Contains, sym, ap, subst, ◌∙◌, arith, zero, suc, le_refl}
use Rattle.std.specs.Prelude.{◌==◌}
use Rattle.std.specs.List.{list_any, slice_index_or}
use Rattle.std.proofs.lemmas.List.{get_or_default, take_all}
use Rattle.std.proofs.lemmas.List.Sums.{count_by_more_yes, count_by_more_no}
use Rattle.std.proofs.lemmas.List.Elements.{All-contains}
use Rattle.std.proofs.lemmas.Bool.{cases_Bool, cases_order, both_ways}
use Rattle.coflow_units.specs.declared.fabric.Flow.{Flow}
use Rattle.coflow_units.specs.Flows.{coflow_of, units_of, SharesPort}
use Rattle.coflow_units.specs.Grants.{place_in, ComesBefore, IsGrants}
use Rattle.coflow_units.specs.Schedule.{holds, times, IsClear, IsValid}
use Rattle.coflow_units.specs.Patient.{IsPatient, IsServedOrWaits}
use Rattle.coflow_units.specs.Served.{left_after, IsServed, IsServedSoFar}
use Rattle.coflow_units.proofs.Sums.{any_has, any_in, sum_same, sum_zero}

turned : (flows : List Flow) (f g : ℕ) → SharesPort flows f g → SharesPort flows g f
turned flows f g (inl e) = inl (sym e)
turned flows f g (inr e) = inr (sym e)

pub some_order : (flows : List Flow) (line : List ℕ) (f g : ℕ) → (f ≡ g) ⊎ (ComesBefore flows line f g ⊎ ComesBefore flows line g f)
some_order flows line f g = elim (cases_order (place_in line (coflow_of flows f)) (place_in line (coflow_of flows g))) [
  | inl e ↦ elim (cases_order f g) [
    | inl same ↦ inl same
    | inr apart ↦ elim apart [
      | inl less ↦ inr (inl (inr (e, less)))
      | inr more ↦ inr (inr (inr (sym e, more)))
    ]
  ]
  | inr apart ↦ elim apart [
    | inl less ↦ inr (inl (inl less))
    | inr more ↦ inr (inr (inl more))
  ]
]

-- grants are a clear slot
pub grants_clear : (flows : List Flow) (line : List ℕ) (left : ℕ → ℕ) (granted : List ℕ) → IsGrants flows line left granted → IsClear flows granted
grants_clear flows line left granted g = record {
  ascending = g.ascending;
  flow = g.flow;
  apart = λ a b ha hb shares. elim (some_order flows line a b) [
    | inl same ↦ same
    | inr order ↦ elim order [
      | inl before ↦ absurd (g.free b hb (a, ha, before, shares))
      | inr before ↦ absurd (g.free a ha (b, hb, before, turned flows a b shares))
    ]
  ];
}

grants_at : (flows : List Flow) (line : List ℕ) (slots : List (List ℕ)) (k : ℕ) (d : List ℕ) → IsServedSoFar flows line slots → k < length slots →
    IsGrants flows line (left_after flows (take k slots)) (get_or slots k d)
grants_at flows line slots k d so_far lt = subst (λ h. IsGrants flows line (left_after flows (take k slots)) h) (get_or_default slots k [] d lt) (so_far.grants k lt)

-- no flow stands in more slots than it has units
times_within : (flows : List Flow) (line : List ℕ) (slots : List (List ℕ)) (f t : ℕ) → IsServedSoFar flows line slots → t ≤ length slots → times (take t slots) f ≤ units_of flows f
times_within flows line slots f zero so_far le = omega arith
times_within flows line slots f (suc t) so_far le =
    let next : suc t ≡ t + 1 = omega arith in
    let before = times_within flows line slots f t so_far (omega arith) in
    elim (cases_Bool (holds (get_or slots t []) f)) [
      | inl yes' ↦
          let owed = (so_far.grants t (omega arith)).owed f (any_has (get_or slots t []) f yes') in
          omega (arith, ap (λ n. times (take n slots) f) next, count_by_more_yes (λ h. holds h f) slots t [] (omega arith) yes', owed)
      | inr not' ↦ omega (arith, ap (λ n. times (take n slots) f) next, count_by_more_no (λ h. holds h f) slots t [] (omega arith) not', before)
    ]

pub served_valid : (flows : List Flow) (line : List ℕ) (slots : List (List ℕ)) → IsServed flows line slots → IsValid flows slots
served_valid flows line slots served = record {
  clear = λ k d lt. grants_clear flows line (left_after flows (take k slots)) (get_or slots k d) (grants_at flows line slots k d served.so_far lt);
  served = λ f lt. omega (
    arith,
    served.ended f lt,
    times_within flows line slots f (length slots) served.so_far (le_refl (length slots)),
    ap (λ l. times l f) (take_all (length slots) slots (le_refl (length slots))),
  );
}

never : (flows : List Flow) (line : List ℕ) (slots : List (List ℕ)) (f : ℕ) (h : List ℕ) → IsServedSoFar flows line slots → (Contains line (coflow_of flows f) → ⊥) →
    Contains slots h → holds h f ≡ false
never flows line slots f h so_far out (k, lt, at) =
    let g = subst (λ x. IsGrants flows line (left_after flows (take k slots)) x) at (grants_at flows line slots k h so_far lt) in
    elim (cases_Bool (holds h f)) [
      | inl t ↦ absurd (out (All-contains (λ x. Contains line (coflow_of flows x)) h f g.in_line (any_has h f t)))
      | inr t ↦ t
    ]

not_in_line : (flows : List Flow) (line : List ℕ) (slots : List (List ℕ)) (f : ℕ) → IsServedSoFar flows line slots → (Contains line (coflow_of flows f) → ⊥) → times slots f ≡ 0
not_in_line flows line slots f so_far out =
    sum_same (λ h. cond (holds h f) 1 0) (λ h. 0) slots (λ h has. ap {B = ℕ} (λ b. cond b 1 0) (never flows line slots f h so_far out has)) ∙ sum_zero slots

-- a flow with units is of a coflow of the line
in_line : (flows : List Flow) (line : List ℕ) (slots : List (List ℕ)) (f : ℕ) → IsServed flows line slots → f < length flows → 0 < units_of flows f →
    Contains line (coflow_of flows f)
in_line flows line slots f served lt some = elim (cases_Bool (list_any (λ x. x == coflow_of flows f) line)) [
  | inl t ↦ any_has line (coflow_of flows f) t
  | inr t ↦
      let none = not_in_line flows line slots f served.so_far (λ has. both_ways (list_any (λ x. x == coflow_of flows f) line) t (any_in line (coflow_of flows f) has)) in
      absurd (omega (arith, none, (served_valid flows line slots served).served f lt))
]

no_later : (flows : List Flow) (line : List ℕ) (g f : ℕ) → ComesBefore flows line g f → place_in line (coflow_of flows g) ≤ place_in line (coflow_of flows f)
no_later flows line g f (inl less) = omega arith
no_later flows line g f (inr same) = omega (arith, same.0)

-- in their slot the grants are what the order asks
pub grants_patient : (flows : List Flow) (line : List ℕ) (left : ℕ → ℕ) (slot : List ℕ) (f : ℕ) → IsGrants flows line left slot → f < length flows →
    Contains line (coflow_of flows f) → 0 < left f → IsServedOrWaits flows line slot f
grants_patient flows line left slot f g lt has some = elim (g.rest f lt has some) [
  | inl in' ↦ inl in'
  | inr (h, in', before, shares) ↦ inr (h, in', shares, no_later flows line h f before)
]

pub served_patient : (flows : List Flow) (line : List ℕ) (slots : List (List ℕ)) → IsServed flows line slots → IsPatient flows line slots
served_patient flows line slots served t f lt in' left =
    grants_patient flows line (left_after flows (take t slots)) (slice_index_or slots t []) f (served.so_far.grants t lt) in'
    (in_line flows line slots f served in' (omega (arith, left))) (omega arith)
