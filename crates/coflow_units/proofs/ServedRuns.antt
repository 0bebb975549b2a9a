-- Grants that are served for several slots.
use Rattle.std.proofs.Common.{◌≡◌, ℕ, ◌-◌, ◌≤◌, ◌<◌, inl, inr, Bool, true, false, cond, List, [], ◌∷◌, ◌++◌, length, replicate, Contains, sym, ap, subst, arith, zero, suc}
use Rattle.std.proofs.Common.{append_assoc, append-nil}
use Rattle.std.proofs.lemmas.List.Elements.{All-contains}
use Rattle.std.proofs.lemmas.Bool.{cases_Bool}
use Rattle.coflow_units.specs.declared.fabric.Flow.{Flow}
use Rattle.coflow_units.specs.Grants.{IsGrants}
use Rattle.coflow_units.specs.Schedule.{holds}
use Rattle.coflow_units.specs.Served.{left_after, IsServedSoFar}
use Rattle.coflow_units.proofs.ServedExists.{goes_on, times_push}
use Rattle.coflow_units.proofs.Sums.{any_has}

pub same_grants : (flows : List Flow) (line : List ℕ) (left after : ℕ → ℕ) (granted : List ℕ) → ((f : ℕ) → f < length flows → 0 < left f → 0 < after f) →
    ((f : ℕ) → f < length flows → 0 < after f → 0 < left f) →
    IsGrants flows line left granted → IsGrants flows line after granted
same_grants flows line left after granted to from g = record {
  ascending = g.ascending;
  flow = g.flow;
  in_line = g.in_line;
  owed = λ f has. to f (All-contains (λ x. x < length flows) granted f g.flow has) (g.owed f has);
  free = g.free;
  rest = λ f lt has some. g.rest f lt has (from f lt some);
}

-- what a slot more leaves
left_push : (flows : List Flow) (slots : List (List ℕ)) (granted : List ℕ) (f : ℕ) →
    left_after flows (slots ++ granted ∷ []) f ≡ left_after flows slots f - cond (holds granted f) 1 0
left_push flows slots granted f = omega (arith, times_push slots granted f)

still_owed : (flows : List Flow) (slots : List (List ℕ)) (granted : List ℕ) (n f : ℕ) → ((g : ℕ) → Contains granted g → suc (suc n) ≤ left_after flows slots g) →
    0 < left_after flows slots f → 0 < left_after flows (slots ++ granted ∷ []) f
still_owed flows slots granted n f long some = elim (cases_Bool (holds granted f)) [
  | inl t ↦ omega (arith, left_push flows slots granted f, ap {B = ℕ} (λ b. cond b 1 0) t, long f (any_has granted f t))
  | inr t ↦ omega (arith, left_push flows slots granted f, ap {B = ℕ} (λ b. cond b 1 0) t, some)
]

one_less : (a b c n : ℕ) → b ≡ a - c → c ≤ 1 → suc (suc n) ≤ a → suc n ≤ b
one_less a b c n e le lt = omega arith

cond_at_most : (b : Bool) → ◌≤◌ (cond {A = ℕ} b 1 0) 1
cond_at_most true = omega arith
cond_at_most false = omega arith

pub run_goes_on : (flows : List Flow) (line : List ℕ) (slots : List (List ℕ)) (granted : List ℕ) (n f : ℕ) → IsServedSoFar flows line slots →
    IsGrants flows line (left_after flows slots) granted → Contains granted f →
    ((g : ℕ) → Contains granted g → n ≤ left_after flows slots g) → IsServedSoFar flows line (slots ++ replicate n granted)
run_goes_on flows line slots granted zero f so_far grants has long = subst (λ s. IsServedSoFar flows line s) (sym (append-nil slots)) so_far
run_goes_on flows line slots granted (suc zero) f so_far grants has long =
    goes_on flows line slots granted so_far grants (f, All-contains (λ x. x < length flows) granted f grants.flow has, grants.owed f has)
run_goes_on flows line slots granted (suc (suc n)) f so_far grants has long =
    let next = goes_on flows line slots granted so_far grants (f, All-contains (λ x. x < length flows) granted f grants.flow has, grants.owed f has) in
    let again = same_grants flows line (left_after flows slots) (left_after flows (slots ++ granted ∷ [])) granted
    (λ g lt some. still_owed flows slots granted n g long some)
    (λ g lt some. omega (arith, left_push flows slots granted g, some)) grants in
    let later = run_goes_on flows line (slots ++ granted ∷ []) granted (suc n) f next again has
    (λ g in'. one_less (left_after flows slots g) (left_after flows (slots ++ granted ∷ []) g) (cond (holds granted g) 1 0) n (left_push flows slots granted g)
    (cond_at_most (holds granted g)) (long g in')) in
    subst (λ s. IsServedSoFar flows line s) (append_assoc slots (granted ∷ []) (replicate (suc n) granted)) later
