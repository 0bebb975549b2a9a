-- The grant at an ingress.
use Rattle.std.proofs.Common.{◌≡◌, ℕ, Bool, false, is_none, true≢false, List, [], ◌∷◌, Contains, inl, inr, Option, Some, None, refl, sym, ap, subst, ◌∙◌}
use Rattle.std.specs.Prelude.{◌==◌, ◌↔◌, if◌then◌else◌}
use Rattle.std.proofs.lemmas.Bool.{cases_Bool, eq-eqb, eqb-true}
use Rattle.coflow_units.specs.declared.fabric.Flow.{Flow}
use Rattle.coflow_units.specs.Flows.{ingress_of}
use Rattle.coflow_units.specs.Schedule.{IsClear}
use Rattle.coflow_units.proofs.Sums.{first_or_tail, in_first, in_tail, nothing_in}
use Rattle.journal.specs.Runs.{grant_in}

pub grant_is : (flows : List Flow) (granted : List ℕ) (p f : ℕ) → grant_in flows granted p ≡ Some f → Contains granted f × (ingress_of flows f ≡ p)
grant_is flows [] p f e = absurd (cc)
grant_is flows (g ∷ gs) p f e = elim (cases_Bool (ingress_of flows g == p)) [
  | inl t ↦
      let same : Some g ≡ Some f = sym (ap (λ (b : Bool). if b then Some g else grant_in flows gs p) t) ∙ e in
      let is : g ≡ f = cc in
      (subst (λ x. Contains (g ∷ gs) x) is (in_first g gs), ap (ingress_of flows) (sym is) ∙ eqb-true (ingress_of flows g) p t)
  | inr t ↦ let (in', at) = grant_is flows gs p f (sym (ap (λ (b : Bool). if b then Some g else grant_in flows gs p) t) ∙ e) in (in_tail g gs f in', at)
]

pub grant_none : (flows : List Flow) (granted : List ℕ) (p f : ℕ) → grant_in flows granted p ≡ None → Contains granted f → ingress_of flows f ≡ p → ⊥
grant_none flows [] p f e in' at = nothing_in f in'
grant_none flows (g ∷ gs) p f e in' at = elim (cases_Bool (ingress_of flows g == p)) [
  | inl t ↦ let wrong : Some g ≡ None = sym (ap (λ (b : Bool). if b then Some g else grant_in flows gs p) t) ∙ e in absurd (cc)
  | inr t ↦ elim (first_or_tail g gs f in') [
    | inl same ↦ true≢false (sym (eq-eqb (ingress_of flows g) p (ap (ingress_of flows) same ∙ at)) ∙ t)
    | inr later ↦ grant_none flows gs p f (sym (ap (λ (b : Bool). if b then Some g else grant_in flows gs p) t) ∙ e) later at
  ]
]

found : (flows : List Flow) (granted : List ℕ) (p f : ℕ) (g : Option ℕ) → grant_in flows granted p ≡ g → IsClear flows granted → Contains granted f → ingress_of flows f ≡ p →
    g ≡ Some f
found flows granted p f None e clear in' at = absurd (grant_none flows granted p f e in' at)
found flows granted p f (Some g) e clear in' at = let (has, here) = grant_is flows granted p g e in ap (λ (n : ℕ). Some n) (clear.apart g f has in' (inl (here ∙ sym at)))

-- of clear grants the one at an ingress is the granted flow that begins there
pub grant_at : (flows : List Flow) (granted : List ℕ) (p f : ℕ) → IsClear flows granted → (grant_in flows granted p ≡ Some f) ↔ (Contains granted f × (ingress_of flows f ≡ p))
grant_at flows granted p f clear = (grant_is flows granted p f, λ h. found flows granted p f (grant_in flows granted p) refl clear h.0 h.1)

none_found : (flows : List Flow) (granted : List ℕ) (p : ℕ) (g : Option ℕ) → grant_in flows granted p ≡ g → ((f : ℕ) → Contains granted f → ingress_of flows f ≡ p → ⊥) → g ≡ None
none_found flows granted p None e none = refl
none_found flows granted p (Some g) e none = let (has, here) = grant_is flows granted p g e in absurd (none g has here)

-- and there is none exactly where no granted flow begins
pub no_grant_at : (flows : List Flow) (granted : List ℕ) (p : ℕ) → (grant_in flows granted p ≡ None) ↔ ((f : ℕ) → Contains granted f → ingress_of flows f ≡ p → ⊥)
no_grant_at flows granted p = ((λ e f in' at. grant_none flows granted p f e in' at), λ none. none_found flows granted p (grant_in flows granted p) refl none)

not_none : (g : Option ℕ) → (g ≡ None → ⊥) → is_none g ≡ false
not_none None some = absurd (some refl)
not_none (Some f) some = refl

pub grant_there : (flows : List Flow) (granted : List ℕ) (f : ℕ) → Contains granted f → is_none (grant_in flows granted (ingress_of flows f)) ≡ false
grant_there flows granted f in' = not_none (grant_in flows granted (ingress_of flows f)) (λ e. grant_none flows granted (ingress_of flows f) f e in' refl)
