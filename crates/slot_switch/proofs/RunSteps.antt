-- The served schedule, one run after another.
use Rattle.std.proofs.Common.{◌≡◌, ℕ, ◌+◌, ◌-◌, ◌^◌, ◌≤◌, ◌<◌, ◌==◌, inl, inr, zero, suc, Bool, true, false, cond, List, [], ◌∷◌, ◌++◌, length, get_or, replicate, take, Contains}
use Rattle.std.proofs.Common.{refl, sym, ap, ◌∙◌, arith, length-append, append-nil, append_assoc}
use Rattle.std.specs.Prelude.{sum_by, map}
use Rattle.std.specs.List.{range_with_len}
use Rattle.std.proofs.lemmas.List.{take_all}
use Rattle.std.proofs.lemmas.List.Sums.{sum_by_more}
use Rattle.coflow_units.proofs.Ranges.{sum_next}
use Rattle.std.proofs.lemmas.List.{get_or-map, get_or_past, length-map, length-replicate, get_or_default}
use Rattle.std.proofs.lemmas.List.Elements.{All-contains}
use Rattle.std.proofs.Math.Path.{fun_ext}
use Rattle.std.proofs.lemmas.Bool.{ne_eqb, eq-eqb, cases_eq, cases_lt}
use Rattle.coflow_units.specs.declared.fabric.Flow.{Flow}
use Rattle.coflow_units.specs.Flows.{coflow_of}
use Rattle.coflow_units.specs.Grants.{IsGrants}
use Rattle.coflow_units.specs.Schedule.{holds}
use Rattle.coflow_units.specs.Served.{left_after, IsServed, IsServedSoFar}
use Rattle.coflow_units.proofs.Numbers.{zero_or_more}
use Rattle.coflow_units.proofs.ServedExists.{left_sum, times_push}
use Rattle.coflow_units.proofs.ServedRuns.{run_goes_on}
use Rattle.coflow_units.proofs.Lists.{number_in, numbers_apart}
use Rattle.coflow_units.proofs.GrantsExist.{numbers_of}
use Rattle.coflow_units.proofs.Sums.{any_in, sum_mono, sum_add, picked_one}
use Rattle.coflow_units.specs.LeastLeft.{IsLeastLeft}
use Rattle.coflow_units.proofs.RunLengths.{some_grant}

-- ---- the units of all flows

sum_below : (flows : List Flow) (n : ℕ) → n ≤ length flows → sum_by (left_after flows []) (range_with_len 0 n) ≡ sum_by (λ (x : Flow). x.units) (take n flows)
sum_below flows zero le = refl
sum_below flows (suc n) le =
    let e : suc n ≡ n + 1 = omega arith in
    ap (λ (k : ℕ). sum_by (left_after flows []) (range_with_len 0 k)) e ∙ sum_next (left_after flows []) n
    ∙ (let step : sum_by (left_after flows []) (range_with_len 0 n) + left_after flows [] n ≡ sum_by (λ (x : Flow). x.units) (take (n + 1) flows) =
    omega (arith, sum_below flows n (omega arith), sum_by_more (λ (x : Flow). x.units) flows n record { coflow = 0; ingress = 0; egress = 0; units = 0 } (omega arith)) in step)
    ∙ ap (λ (k : ℕ). sum_by (λ (x : Flow). x.units) (take k flows)) (sym e)

pub units_in_all : (flows : List Flow) → left_sum flows [] ≡ sum_by (λ (x : Flow). x.units) flows
units_in_all flows = sum_below flows (length flows) (omega arith) ∙ ap (λ (xs : List Flow). sum_by (λ (x : Flow). x.units) xs) (take_all (length flows) flows (omega arith))

-- ---- a run of slots

-- what is left after a run of equal slots
pub left_after_run : (flows : List Flow) (slots : List (List ℕ)) (granted : List ℕ) (n f : ℕ) →
    left_after flows (slots ++ replicate n granted) f ≡ left_after flows slots f - cond (holds granted f) n 0
left_after_run flows slots granted zero f =
    omega (arith, ap (λ (s : List (List ℕ)). left_after flows s f) (append-nil slots), nothing (holds granted f)) where
      nothing : (b : Bool) → cond {A = ℕ} b 0 0 ≡ 0
      nothing true = refl
      nothing false = refl
left_after_run flows slots granted (suc n) f =
    let again : slots ++ replicate (suc n) granted ≡ slots ++ granted ∷ [] ++ replicate n granted = sym (append_assoc slots (granted ∷ []) (replicate n granted)) in
    omega (
      arith,
      ap (λ (s : List (List ℕ)). left_after flows s f) again,
      left_after_run flows (slots ++ granted ∷ []) granted n f,
      times_push slots granted f,
      parts (holds granted f),
    ) where
      parts : (b : Bool) → cond {A = ℕ} b (suc n) 0 ≡ cond b 1 0 + cond b n 0
      parts true = omega arith
      parts false = omega arith

-- ---- the state between two runs

-- each run so far is served, and the slots are no more than the units
pub record IsServing (flows : List Flow) (line : List ℕ) (slots : List (List ℕ)) : Type 0 where
  pub so_far : IsServedSoFar flows line slots
  pub room : length slots + left_sum flows slots ≤ left_sum flows []

pub nothing_served : (flows : List Flow) (line : List ℕ) → IsServing flows line []
nothing_served flows line = record {
  so_far = record { grants = λ t lt. absurd (omega arith); owed = λ t lt. absurd (omega arith) };
  room = omega arith;
}

-- before the first slot each flow has its units
pub all_left : (flows : List Flow) (units : List ℕ) → units ≡ map (λ (x : Flow). x.units) flows → (λ f. get_or units f 0) ≡ left_after flows []
all_left flows units e = fun_ext (λ f. elim (cases_lt f (length flows)) [
  | inl lt ↦ omega (arith, ap (λ (xs : List ℕ). get_or xs f 0) e, get_or-map (λ (x : Flow). x.units) flows f record { coflow = 0; ingress = 0; egress = 0; units = 0 } 0 lt)
  | inr past ↦ omega (
    arith,
    ap (λ (xs : List ℕ). get_or xs f 0) e,
    get_or_past (map (λ (x : Flow). x.units) flows) f 0 (omega (arith, past, length-map flows (λ (x : Flow). x.units))),
    ap (λ (x : Flow). x.units) (get_or_past flows f record { coflow = 0; ingress = 0; egress = 0; units = 0 } past),
  )
])

-- something is granted: the first of the list
first_granted : (granted : List ℕ) → 0 < length granted → Contains granted (get_or granted 0 0)
first_granted granted lt = (0, lt, sym (get_or_default granted 0 0 (get_or granted 0 0) lt))

-- a run has a slot, where something is granted
pub run_has_slot : (flows : List Flow) (line : List ℕ) (left : ℕ → ℕ) (granted : List ℕ) (n : ℕ) → IsGrants flows line left granted → IsLeastLeft left granted n →
    0 < length granted → 1 ≤ n
run_has_slot flows line left granted n grants least some =
    let (k, f, lt, at, is) = least.reached (λ e. omega (arith, some, ap (λ (xs : List ℕ). length xs) e)) in
    omega (arith, is, grants.owed f (k, lt, at))

within_left : (left : ℕ → ℕ) (granted : List ℕ) (n f : ℕ) → IsLeastLeft left granted n → Contains granted f → n ≤ left f
within_left left granted n f least has = All-contains (λ f. n ≤ left f) granted f least.below has

run_takes : (flows : List Flow) (line : List ℕ) (slots : List (List ℕ)) (granted : List ℕ) (n h : ℕ) → IsGrants flows line (left_after flows slots) granted → Contains granted h →
    n ≤ left_after flows slots h →
    left_sum flows (slots ++ replicate n granted) + n ≤ left_sum flows slots
run_takes flows line slots granted n h grants has long =
    let ns = numbers_of flows in
    let after = left_after flows (slots ++ replicate n granted) in
    omega (
      arith,
      sum_mono (λ f. after f + cond (h == f) n 0) (left_after flows slots) ns (λ f _. at f),
      sum_add after (λ f. cond (h == f) n 0) ns,
      picked_one h (λ _. n) ns (numbers_apart 0 (length flows))
          (number_in 0 (length flows) h (omega arith) (omega (arith, All-contains (λ x. x < length flows) granted h grants.flow has))),
    ) where
      at : (f : ℕ) → left_after flows (slots ++ replicate n granted) f + cond (h == f) n 0 ≤ left_after flows slots f
      at f = elim (cases_eq h f) [
        | inl e ↦ omega (
          arith,
          left_after_run flows slots granted n f,
          ap {B = ℕ} (λ b. cond b n 0) (ap (holds granted) (sym e) ∙ any_in granted h has),
          ap {B = ℕ} (λ b. cond b n 0) (eq-eqb h f e),
          ap (left_after flows slots) e,
          long,
        )
        | inr ne ↦ omega (arith, left_after_run flows slots granted n f, ap {B = ℕ} (λ b. cond b n 0) (ne_eqb h f ne))
      ]

pub serve_run : (flows : List Flow) (line : List ℕ) (slots : List (List ℕ)) (granted : List ℕ) (n : ℕ) → IsServing flows line slots →
    IsGrants flows line (left_after flows slots) granted → IsLeastLeft (left_after flows slots) granted n → 0 < length granted →
    IsServing flows line (slots ++ replicate n granted) × (left_sum flows (slots ++ replicate n granted) < left_sum flows slots)
serve_run flows line slots granted n now grants least some =
    let h = get_or granted 0 0 in
    let has = first_granted granted some in
    let one = run_has_slot flows line (left_after flows slots) granted n grants least some in
    let long : (g : ℕ) → Contains granted g → n ≤ left_after flows slots g = λ g in'. within_left (left_after flows slots) granted n g least in' in
    let less = run_takes flows line slots granted n h grants has (long h has) in
    let longer : length (slots ++ replicate n granted) ≡ length slots + n = length-append slots (replicate n granted) ∙
    ap (λ (m : ℕ). length slots + m) (length-replicate n granted) in (
      record { so_far = run_goes_on flows line slots granted n h now.so_far grants has long; room = omega (arith, less, longer, now.room) },
      omega (arith, less, one),
    )

-- the schedule stays within its limit
pub run_is_short : (flows : List Flow) (line : List ℕ) (slots : List (List ℕ)) (granted : List ℕ) (n : ℕ) → IsServing flows line slots →
    IsGrants flows line (left_after flows slots) granted → IsLeastLeft (left_after flows slots) granted n → 0 < length granted →
    sum_by (λ (x : Flow). x.units) flows ≤ 2 ^ 40 → length slots + n ≤ 2199023255551
run_is_short flows line slots granted n now grants least some few =
    let h = get_or granted 0 0 in
    let has = first_granted granted some in
    let long = within_left (left_after flows slots) granted n h least has in
    omega (arith, now.room, run_takes flows line slots granted n h grants has long, few, units_in_all flows)

-- where nothing is granted, all is served
pub all_served : (flows : List Flow) (line : List ℕ) (slots : List (List ℕ)) (granted : List ℕ) → ((f : ℕ) → f < length flows → Contains line (coflow_of flows f)) →
    IsServing flows line slots → IsGrants flows line (left_after flows slots) granted → length granted ≡ 0 →
    IsServed flows line slots
all_served flows line slots granted named now grants none = record {
  so_far = now.so_far;
  ended = λ f lt. elim (zero_or_more (left_after flows slots f)) [
    | inl zero' ↦ zero'
    | inr some ↦ let (h, has) = some_grant flows line (left_after flows slots) granted f grants lt (named f lt) some in let (k, in', _) = has in absurd (omega (arith, in', none))
  ];
}
