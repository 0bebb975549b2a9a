-- The served schedule, computed.
use Rattle.std.proofs.Common.{◌≡◌, ℕ, ◌+◌, ◌≤◌, ◌<◌, ◌⊎◌, inl, inr, Bool, true, false, cond, List, [], ◌∷◌, ◌++◌, length, get_or, take, Contains, refl, sym, ap, subst, ◌∙◌, arith}
use Rattle.std.proofs.Common.{zero, suc, length-append}
use Rattle.std.specs.Prelude.{sum_by, if◌then◌else◌, nat_lt}
use Rattle.std.specs.List.{list_any}
use Rattle.std.proofs.Math.Seq.{take-append_seam}
use Rattle.std.proofs.lemmas.List.{take-append-le}
use Rattle.std.proofs.lemmas.List.Sums.{sum_by-append, sum_by_push}
use Rattle.std.proofs.lemmas.List.Elements.{All-contains}
use Rattle.std.proofs.lemmas.Bool.{ltb-true, lt-ltb, both_ways}
use Rattle.coflow_units.specs.declared.fabric.Flow.{Flow}
use Rattle.coflow_units.specs.Flows.{coflow_of, units_of}
use Rattle.coflow_units.specs.Grants.{IsGrants}
use Rattle.coflow_units.specs.Schedule.{holds, times}
use Rattle.coflow_units.specs.Served.{left_after, IsServed, IsServedSoFar}
use Rattle.coflow_units.proofs.Lists.{any_where, any_from, number_in, number_below}
use Rattle.coflow_units.proofs.GrantsExist.{grants_of, grants_exist, numbers_of}
use Rattle.coflow_units.proofs.Numbers.{zero_or_more}
use Rattle.coflow_units.proofs.RunLengths.{some_grant}
use Rattle.coflow_units.proofs.Sums.{any_in, member_within_sum, sum_less}

abbrev pub owes : List Flow → List (List ℕ) → Bool
owes flows slots = list_any (λ f. nat_lt 0 (left_after flows slots f)) (numbers_of flows)

abbrev pub one_more : List Flow → List ℕ → List (List ℕ) → List (List ℕ)
one_more flows line slots = if owes flows slots then slots ++ grants_of flows line (left_after flows slots) ∷ [] else slots

abbrev pub served_after : List Flow → List ℕ → ℕ → List (List ℕ)
served_after flows line zero = []
served_after flows line (suc n) = one_more flows line (served_after flows line n)

abbrev pub left_sum : List Flow → List (List ℕ) → ℕ
left_sum flows slots = sum_by (left_after flows slots) (numbers_of flows)

abbrev pub serve : List Flow → List ℕ → List (List ℕ)
serve flows line = served_after flows line (left_sum flows [])

get_before : (s : List (List ℕ)) (g : List ℕ) (t : ℕ) → t < length s → get_or (s ++ g ∷ []) t [] ≡ get_or s t []
get_before [] g t lt = absurd (omega arith)
get_before (x ∷ xs) g zero lt = refl
get_before (x ∷ xs) g (suc t) lt = get_before xs g t (omega arith)

get_at : (s : List (List ℕ)) (g : List ℕ) (t : ℕ) → t ≡ length s → get_or (s ++ g ∷ []) t [] ≡ g
get_at [] g t e = ap (λ k. get_or (g ∷ []) k []) e
get_at (x ∷ xs) g zero e = absurd (omega arith)
get_at (x ∷ xs) g (suc t) e = get_at xs g t (omega arith)

take_before : (s : List (List ℕ)) (g : List ℕ) (t : ℕ) → t ≤ length s → take t (s ++ g ∷ []) ≡ take t s
take_before s g t le = take-append-le t s (g ∷ []) le

take_at : (s : List (List ℕ)) (g : List ℕ) (t : ℕ) → t ≡ length s → take t (s ++ g ∷ []) ≡ s
take_at s g t e = ap (λ k. take k (s ++ g ∷ [])) e ∙ take-append_seam s (g ∷ [])

split : (t n : ℕ) → t < n + 1 → (t < n) ⊎ (t ≡ n)
split t n lt = grind arith

at_or_before : (s : List (List ℕ)) (g : List ℕ) (t : ℕ) → t < length (s ++ g ∷ []) → (t < length s) ⊎ (t ≡ length s)
at_or_before s g t lt = split t (length s) (omega (arith, length-append s (g ∷ [])))

-- the served schedule goes on by one slot
pub goes_on : (flows : List Flow) (line : List ℕ) (s : List (List ℕ)) (g : List ℕ) → IsServedSoFar flows line s → IsGrants flows line (left_after flows s) g →
    (f : ℕ) × (f < length flows) × (0 < left_after flows s f) → IsServedSoFar flows line (s ++ g ∷ [])
goes_on flows line s g so_far grants owed = record {
  grants = λ t lt. elim (at_or_before s g t lt) [
    | inl before ↦ subst (λ x. IsGrants flows line (left_after flows (take t (s ++ g ∷ []))) x) (sym (get_before s g t before))
        (subst (λ l. IsGrants flows line (left_after flows l) (get_or s t [])) (sym (take_before s g t (omega arith))) (so_far.grants t before))
    | inr at ↦ subst (λ x. IsGrants flows line (left_after flows (take t (s ++ g ∷ []))) x) (sym (get_at s g t at))
        (subst (λ l. IsGrants flows line (left_after flows l) g) (sym (take_at s g t at)) grants)
  ];
  owed = λ t lt. elim (at_or_before s g t lt) [
    | inl before ↦ let (f, in', some) = so_far.owed t before in (f, in', subst (λ l. 0 < left_after flows l f) (sym (take_before s g t (omega arith))) some)
    | inr at ↦ let (f, in', some) = owed in (f, in', subst (λ l. 0 < left_after flows l f) (sym (take_at s g t at)) some)
  ];
}

pub times_push : (s : List (List ℕ)) (g : List ℕ) (f : ℕ) → times (s ++ g ∷ []) f ≡ times s f + cond (holds g f) 1 0
times_push s g f = sum_by_push (λ h. cond (holds h f) 1 0) s g

pub times_append : (a b : List (List ℕ)) (f : ℕ) → times (a ++ b) f ≡ times a f + times b f
times_append a b f = sum_by-append (λ slot. cond (holds slot f) 1 0) a b

-- what is left falls
pub falls_by_one : (flows : List Flow) (line : List ℕ) (s : List (List ℕ)) (g : List ℕ) (h : ℕ) → IsGrants flows line (left_after flows s) g → Contains g h →
    left_sum flows (s ++ g ∷ []) < left_sum flows s
falls_by_one flows line s g h grants has =
    let here = ap {B = ℕ} (λ b. cond b 1 0) (any_in g h has) in
    sum_less (left_after flows (s ++ g ∷ [])) (left_after flows s) (numbers_of flows) h
    (λ x. omega (arith, times_push s g x))
    (number_in 0 (length flows) h (omega arith) (omega (arith, All-contains (λ x. x < length flows) g h grants.flow has)))
    (omega (arith, times_push s g h, here, grants.owed h has))

nothing_owed : (flows : List Flow) (s : List (List ℕ)) → owes flows s ≡ false → (f : ℕ) → f < length flows → left_after flows s f ≡ 0
nothing_owed flows s e f lt = elim (zero_or_more (left_after flows s f)) [
  | inl none ↦ none
  | inr some ↦ absurd (both_ways (owes flows s) e
      (any_from (λ x. nat_lt 0 (left_after flows s x)) (numbers_of flows) f (number_in 0 (length flows) f (omega arith) (omega arith)) (lt-ltb 0 (left_after flows s f) some)))
]

record IsOnWay (flows : List Flow) (line : List ℕ) (n : ℕ) (s : List (List ℕ)) : Type 0 where
  pub so_far : IsServedSoFar flows line s
  pub near : ((f : ℕ) → f < length flows → left_after flows s f ≡ 0) ⊎ (left_sum flows s + n ≤ left_sum flows [])

way_step : (flows : List Flow) (line : List ℕ) (n : ℕ) (s : List (List ℕ)) → ((f : ℕ) → f < length flows → 0 < units_of flows f → Contains line (coflow_of flows f)) →
    IsOnWay flows line n s → (b : Bool) → owes flows s ≡ b →
    IsOnWay flows line (suc n) (if b then s ++ grants_of flows line (left_after flows s) ∷ [] else s)
way_step flows line n s all way true e =
    let g = grants_of flows line (left_after flows s) in
    let grants = grants_exist flows line (left_after flows s) in
    let (f, has, at) = any_where (λ x. nat_lt 0 (left_after flows s x)) (numbers_of flows) e in
    let lt : f < length flows = omega (arith, number_below 0 (length flows) f has) in
    let some = ltb-true 0 (left_after flows s f) at in
    let (h, in') = some_grant flows line (left_after flows s) g f grants lt (all f lt (omega (arith, some))) some in
    record {
      so_far = goes_on flows line s g way.so_far grants (f, lt, some);
      near = elim way.near [
        | inl ended ↦ absurd (omega (arith, some, ended f lt))
        | inr near ↦ inr (omega (arith, near, falls_by_one flows line s g h grants in'))
      ];
    }
way_step flows line n s all way false e = record { so_far = way.so_far; near = inl (nothing_owed flows s e) }

way : (flows : List Flow) (line : List ℕ) (n : ℕ) → ((f : ℕ) → f < length flows → 0 < units_of flows f → Contains line (coflow_of flows f)) →
    IsOnWay flows line n (served_after flows line n)
way flows line zero all = record { so_far = record { grants = λ t lt. absurd (omega arith); owed = λ t lt. absurd (omega arith) }; near = inr (omega arith) }
way flows line (suc n) all = way_step flows line n (served_after flows line n) all (way flows line n all) (owes flows (served_after flows line n)) refl

pub served_exists : (flows : List Flow) (line : List ℕ) → ((f : ℕ) → f < length flows → 0 < units_of flows f → Contains line (coflow_of flows f)) →
    IsServed flows line (serve flows line)
served_exists flows line all =
    let w = way flows line (left_sum flows []) all in
    record {
      so_far = w.so_far;
      ended = λ f lt. elim w.near [
        | inl ended ↦ ended f lt
        | inr near ↦ omega (arith, near, member_within_sum (left_after flows (serve flows line)) (numbers_of flows) f (number_in 0 (length flows) f (omega arith) (omega arith)))
      ];
    }
