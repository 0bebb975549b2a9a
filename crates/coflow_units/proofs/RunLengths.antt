-- How long the grants of a slot may be served as they are.
use Rattle.std.proofs.Common.{◌≡◌, ℕ, ◌≤◌, ◌<◌, ◌⊎◌, inl, inr, List, [], ◌∷◌, length, Contains, refl, arith, min, subst}
use Rattle.coflow_units.specs.declared.fabric.Flow.{Flow}
use Rattle.coflow_units.specs.Flows.{coflow_of}
use Rattle.coflow_units.specs.Grants.{IsGrants, IsRunLength}
use Rattle.coflow_units.proofs.Sums.{first_or_tail, in_first, in_tail, nothing_in}

within : (left : ℕ → ℕ) (granted : List ℕ) (most a b : ℕ) → IsRunLength left granted most a → IsRunLength left granted most b → a ≤ b
within left granted most a b ra rb = elim rb.longest [
  | inl e ↦ omega (arith, e, ra.asked)
  | inr p ↦ omega (arith, ra.owed p.0 p.1, p.2)
]

pub one_run_length : (left : ℕ → ℕ) (granted : List ℕ) (most a b : ℕ) → IsRunLength left granted most a → IsRunLength left granted most b → a ≡ b
one_run_length left granted most a b ra rb = omega (arith, within left granted most a b ra rb, within left granted most b a rb ra)

-- the least of what was asked and the units left of the granted flows
abbrev pub run_length : (ℕ → ℕ) → List ℕ → ℕ → ℕ
run_length left [] most = most
run_length left (f ∷ fs) most = min (left f) (run_length left fs most)

least_of : (a b : ℕ) → (min a b ≤ a) × ((min a b ≤ b) × ((min a b ≡ a) ⊎ (min a b ≡ b)))
least_of a b = (grind arith, (grind arith, grind arith))

pub run_length_is : (left : ℕ → ℕ) (granted : List ℕ) (most : ℕ) → IsRunLength left granted most (run_length left granted most)
run_length_is left [] most = record { asked = omega arith; owed = λ f has. absurd (nothing_in f has); longest = inl refl }
run_length_is left (f ∷ fs) most =
    let tail = run_length_is left fs most in
    let n = run_length left fs most in
    let parts = least_of (left f) n in
    let here = parts.0 in
    let later = parts.1.0 in
    let which = parts.1.1 in
    record {
      asked = omega (arith, later, tail.asked);
      owed = λ g has. elim (first_or_tail f fs g has) [
        | inl e ↦ subst (λ x. min (left f) n ≤ left x) e here
        | inr h ↦ omega (arith, later, tail.owed g h)
      ];
      longest = elim which [
        | inl e ↦ inr (f, in_first f fs, omega (arith, e))
        | inr e ↦ elim tail.longest [
          | inl all ↦ inl (omega (arith, e, all))
          | inr p ↦ inr (p.0, in_tail f fs p.0 p.1, omega (arith, e, p.2))
        ]
      ];
    }

-- where a flow of the line has units left, something is granted
pub some_grant : (flows : List Flow) (line : List ℕ) (left : ℕ → ℕ) (granted : List ℕ) (f : ℕ) → IsGrants flows line left granted → f < length flows →
    Contains line (coflow_of flows f) → 0 < left f → (g : ℕ) × Contains granted g
some_grant flows line left granted f grants lt has owed = elim (grants.rest f lt has owed) [
  | inl here ↦ (f, here)
  | inr blocked ↦ (blocked.0, blocked.1)
]
