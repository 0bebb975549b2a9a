-- Sums over the places of a certificate.
use Rattle.std.proofs.Common.{◌≡◌, ℕ, ◌+◌, ◌*◌, ◌≤◌, ◌<◌, cond, List, [], ◌∷◌, Contains, refl, ap, arith, le_trans}
use Rattle.std.specs.Prelude.{sum_by, All}
use Rattle.std.proofs.Math.Nat.{mul-le-mul_left}
use Rattle.std.proofs.lemmas.List.Sums.{sum_by-cons}
use Rattle.std.proofs.lemmas.List.Elements.{All-head, All-tail}
use Rattle.coflow_units.specs.declared.fabric.Flow.{Flow}
use Rattle.coflow_units.specs.declared.fabric.Port.{Port}
use Rattle.coflow_units.specs.Load.{load, load_of_all}
use Rattle.coflow_units.specs.Certificate.{budget, Entry, front, front_load, used, rest, over_places, IsFeasible}
use Rattle.coflow_units.proofs.Sums.{in_first, in_tail, any_in, any_not}

-- a placed coflow pays y times its load there, and what it pays at the places before
pub used_in : (flows : List Flow) (e : Entry) (before : List Entry) (c : ℕ) → Contains (front (e ∷ before)) c →
    used flows (e ∷ before) c ≡ e.y * load flows c e.port + used flows before c
used_in flows e before c has = ap {B = ℕ} (λ b. cond b (e.y * load flows c e.port) 0 + used flows before c) (any_in (front (e ∷ before)) c has)

pub used_outside : (flows : List Flow) (entries : List Entry) (c : ℕ) → (Contains (front entries) c → ⊥) → used flows entries c ≡ 0
used_outside flows [] c out = refl
used_outside flows (e ∷ before) c out =
    let none = ap {B = ℕ} (λ b. cond b (e.y * load flows c e.port) 0 + used flows before c) (any_not (front (e ∷ before)) c out) in
    omega (arith, none, used_outside flows before c (λ has. out (in_tail e.coflow (front before) c has)))

-- sums over places
pub places_same : (flows : List Flow) (a b : ℕ → ℕ) (entries : List Entry) → ((c : ℕ) → Contains (front entries) c → a c ≡ b c) →
    over_places flows a entries ≡ over_places flows b entries
places_same flows a b [] same = refl
places_same flows a b (e ∷ before) same =
    omega (
      arith,
      ap (λ n. n * front_load flows (e ∷ before)) (same e.coflow (in_first e.coflow (front before))),
      places_same flows a b before (λ c has. same c (in_tail e.coflow (front before) c has)),
    )

pub places_add : (flows : List Flow) (a b : ℕ → ℕ) (entries : List Entry) → over_places flows (λ c. a c + b c) entries ≡ over_places flows a entries + over_places flows b entries
places_add flows a b [] = refl
places_add flows a b (e ∷ before) = omega (arith, places_add flows a b before)

pub places_cap : (flows : List Flow) (ports k : ℕ) (a : ℕ → ℕ) (entries : List Entry) → All (λ (e : Entry). e.port.number < ports) entries →
    ((port : Port) → port.number < ports → load_of_all flows (front entries) port ≤ k) → over_places flows a entries ≤ k * sum_by a (front entries)
places_cap flows ports k a [] inside cap = omega arith
places_cap flows ports k a (e ∷ before) inside cap =
    let here = cap e.port (All-head (λ (x : Entry). x.port.number < ports) e before inside) in
    let later = places_cap flows ports k a before (All-tail (λ (x : Entry). x.port.number < ports) e before inside)
    (λ port lt. le_trans (omega (arith, sum_by-cons (λ c. load flows c port) e.coflow (front before))) (cap port lt)) in
    omega (arith, mul-le-mul_left (a e.coflow) here, later, ap (λ n. k * n) (sum_by-cons a e.coflow (front before)))

pub rest_exact : (flows : List Flow) (weight : ℕ → ℕ) (entries : List Entry) → IsFeasible flows weight entries → (c : ℕ) →
    used flows entries c + rest flows weight entries c ≡ budget weight c
rest_exact flows weight entries feasible c = omega (arith, feasible c)
