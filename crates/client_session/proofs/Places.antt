-- The place of an ingress port beside the flow that is granted there.
use Rattle.std.proofs.Common.{◌≡◌, ℕ, ◌<◌, ◌==◌, Bool, true, false, List, [], ◌∷◌, get_or, length, map, position, Some, None, zero, suc, refl, sym, ap, ◌∙◌, arith}
use Rattle.std.specs.Prelude.{if◌then◌else◌}
use Rattle.std.proofs.lemmas.List.{get_or-map, length-map}
use Rattle.std.proofs.lemmas.List.Quantifiers.{position-Some}
use Rattle.std.proofs.lemmas.List.Sums.{fails_before_first}
use Rattle.coflow_units.specs.declared.fabric.Flow.{Flow}
use Rattle.coflow_units.specs.Flows.{ingress_of}
use Rattle.coflow_units.proofs.Fronts.{none_length}
use Rattle.journal.specs.Runs.{grant_in}

-- the first flow that begins at the port is the one that is granted there
first_at : (flows : List Flow) (port : ℕ) (granted : List ℕ) (j d : ℕ) → j < length granted → (ingress_of flows (get_or granted j d) == port) ≡ true →
    ((k : ℕ) → k < j → (ingress_of flows (get_or granted k d) == port) ≡ false) → grant_in flows granted port ≡ Some (get_or granted j d)
first_at flows port [] j d lt here before = absurd (omega (arith, lt))
first_at flows port (f ∷ fs) zero d lt here before = ap (λ (b : Bool). if b then Some f else grant_in flows fs port) here
first_at flows port (f ∷ fs) (suc j) d lt here before =
    ap (λ (b : Bool). if b then Some f else grant_in flows fs port) (before 0 (omega arith)) ∙
    first_at flows port fs j d (omega (arith, lt)) here (λ k less. before (suc k) (omega (arith, less)))

pub found_at : (flows : List Flow) (port : ℕ) (granted : List ℕ) (j d : ℕ) → position (λ p. p == port) (map (ingress_of flows) granted) ≡ Some j →
    grant_in flows granted port ≡ Some (get_or granted j d)
found_at flows port granted j d e =
    let (low, here, before) = position-Some (λ p. p == port) (map (ingress_of flows) granted) j 0 e in
    let long = length-map granted (ingress_of flows) in
    let less : j < length granted = omega (arith, low, long) in
    first_at flows port granted j d less (ap (λ p. p == port) (sym (get_or-map (ingress_of flows) granted j d 0 less)) ∙ here)
    (λ k lt. ap (λ p. p == port) (sym (get_or-map (ingress_of flows) granted k d 0 (omega (arith, lt, less)))) ∙ before k lt)

none_first : (flows : List Flow) (port : ℕ) (granted : List ℕ) → ((k : ℕ) → k < length granted → (ingress_of flows (get_or granted k 0) == port) ≡ false) →
    grant_in flows granted port ≡ None
none_first flows port [] far = refl
none_first flows port (f ∷ fs) far =
    ap (λ (b : Bool). if b then Some f else grant_in flows fs port) (far 0 (omega arith)) ∙ none_first flows port fs (λ k lt. far (suc k) (omega (arith, lt)))

pub none_at : (flows : List Flow) (port : ℕ) (granted : List ℕ) → position (λ p. p == port) (map (ingress_of flows) granted) ≡ None → grant_in flows granted port ≡ None
none_at flows port granted e =
    let past = none_length (λ p. p == port) (map (ingress_of flows) granted) (sym e) in
    let long = length-map granted (ingress_of flows) in
    none_first flows port granted (λ k lt. ap (λ p. p == port) (sym (get_or-map (ingress_of flows) granted k 0 0 lt)) ∙
    fails_before_first (λ p. p == port) (map (ingress_of flows) granted) k 0 (omega (arith, lt, past, long)))
