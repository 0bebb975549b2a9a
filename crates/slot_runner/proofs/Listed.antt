-- What was sent of the granted flows, and the ports beside them.
use Rattle.std.proofs.Common.{◌≡◌, ℕ, ◌<◌, List, get_or, length, map, Some, None, sym, ap, subst, ◌∙◌, arith}
use Rattle.std.specs.Prelude.{All, Contains}
use Rattle.std.proofs.lemmas.List.{get_or-map, get_or_default, length-map}
use Rattle.std.proofs.lemmas.List.Elements.{All-contains}
use Rattle.coflow_units.specs.declared.fabric.Flow.{Flow}
use Rattle.coflow_units.specs.Flows.{ingress_of}
use Rattle.coflow_units.specs.Schedule.{IsClear}
use Rattle.journal.specs.Driven.{Drive, sent_from}
use Rattle.journal.specs.Runs.{grant_in}
use Rattle.journal.proofs.Ingresses.{grant_at, grant_is, no_grant_at}

-- what stands in a list stands as well in the one that is made of it
in_list : (w : ℕ → ℕ) (xs : List ℕ) (x : ℕ) → Contains xs x → Contains (map w xs) (w x)
in_list w xs x (k, low, is) = (k, omega (arith, low, length-map xs w), get_or-map w xs k x (w x) low ∙ ap w is)

module _ (flows : List Flow) (granted : List ℕ) (d : Drive) (ports sent : List ℕ) (beside : ports ≡ map (ingress_of flows) granted)
    (listed : sent ≡ map (sent_from flows d) granted) where
  pub as_long : length sent ≡ length ports
  as_long = ap (λ (l : List ℕ). length l) listed ∙ length-map granted (sent_from flows d) ∙ sym (length-map granted (ingress_of flows)) ∙
      sym (ap (λ (l : List ℕ). length l) beside)

  -- the units in the place of a port are those that were sent from it
  pub found_units : (port units : ℕ) → IsClear flows granted → (k : ℕ) × (k < length ports) × (get_or ports k 0 ≡ port) × (get_or sent k 0 ≡ units) →
      (f : ℕ) × Contains granted f × (grant_in flows granted port ≡ Some f) × (units ≡ d.sent port)
  found_units port units clear (k, low, port_is, units_is) =
      let long = length-map granted (ingress_of flows) in
      let less : k < length granted = omega (arith, low, ap (λ (l : List ℕ). length l) beside, long) in
      let f = get_or granted k 0 in
      let has : Contains granted f = (k, less, get_or_default granted k f 0 less) in
      let at : ingress_of flows f ≡ port = sym (ap (λ l. get_or l k 0) beside ∙ get_or-map (ingress_of flows) granted k 0 0 less) ∙ port_is in (
        f,
        has,
        (grant_at flows granted port f clear).1 (has, at),
        sym units_is ∙ ap (λ l. get_or l k 0) listed ∙ get_or-map (sent_from flows d) granted k 0 0 less ∙ ap d.sent at,
      )

  -- a port that is not in the list has no grant
  pub no_units : (port : ℕ) → (Contains ports port → ⊥) → grant_in flows granted port ≡ None
  no_units port none = (no_grant_at flows granted port).1
      (λ f has at. none (subst (λ (z : List ℕ × ℕ). Contains z.0 z.1) (λ i. (sym beside i, at i)) (in_list (ingress_of flows) granted f has)))

  -- where so many units were sent of each flow, so many were sent from each port with a grant
  pub whole_at : (slots : ℕ) → All (λ units. units ≡ slots) sent → (p f : ℕ) → grant_in flows granted p ≡ Some f → d.sent p ≡ slots
  whole_at slots all p f e =
      let (has, at) = grant_is flows granted p f e in
      sym (ap d.sent at) ∙ All-contains (λ units. units ≡ slots) sent (sent_from flows d f) all
      (subst (λ l. Contains l (sent_from flows d f)) (sym listed) (in_list (sent_from flows d) granted f has))
