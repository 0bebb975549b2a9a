-- What a crew leaves of a run whose granted ports it served.
use Rattle.std.proofs.Common.{◌≡◌, ◌==◌, if◌then◌else◌, inl, inr, ⊎_elim, ℕ, ◌<◌, Bool, true, false, List, [], ◌∷◌, length, map, get_or, Option, Some, None, suc}
use Rattle.std.proofs.Common.{sym, ap, subst, ◌∙◌, arith}
use Rattle.std.specs.Prelude.{All, Contains}
use Rattle.std.proofs.lemmas.Bool.{cases_Bool, eq-eqb, eqb-true}
use Rattle.std.proofs.lemmas.List.{get_or-map, get_or_default, length-map}
use Rattle.std.proofs.lemmas.List.Elements.{Contains-get_or}
use Rattle.std.proofs.lemmas.List.Kept.{AllPairs-from_increasing}
use Rattle.coflow_units.specs.declared.fabric.Flow.{Flow}
use Rattle.coflow_units.specs.Flows.{ingress_of}
use Rattle.coflow_units.specs.Schedule.{IsClear}
use Rattle.coflow_units.proofs.Sums.{first_or_tail, in_first, in_tail, nothing_in}
use Rattle.journal.specs.declared.opening.Opening.{Opening}
use Rattle.journal.specs.Runs.{grant_in}
use Rattle.journal.specs.State.{IsOpening}
use Rattle.journal.proofs.Ingresses.{grant_is, grant_none}
use Rattle.port_board.specs.declared.view.View.{View}
use Rattle.port_agent.specs.Attended.{IsServed}
use Rattle.crews.specs.Served.{IsCrewed}
use Rattle.crews.specs.Wires.{Distinct, wires_of}
use Rattle.slot_runner.proofs.Apart.{port_within}
use Rattle.slot_runner.proofs.OnePort.{AreGrantsServed}

-- the place of a port in a list, and the length of the list where it has none
abbrev pub place_in : List ℕ → ℕ → ℕ
place_in [] p = 0
place_in (q ∷ qs) p = if q == p then 0 else suc (place_in qs p)

pub place_found : (ports : List ℕ) (p : ℕ) → Contains ports p → (place_in ports p < length ports) × (get_or ports (place_in ports p) 0 ≡ p)
place_found [] p has = absurd (nothing_in p has)
place_found (q ∷ qs) p has = elim (cases_Bool (q == p)) [
  | inl t ↦ subst (λ k. (k < length (q ∷ qs)) × (get_or (q ∷ qs) k 0 ≡ p)) (sym (ap (λ (b : Bool). if b then 0 else suc (place_in qs p)) t)) (omega arith, eqb-true q p t)
  | inr t ↦ elim (first_or_tail q qs p has) [
    | inl same ↦ absurd (true_false (sym (eq-eqb q p same) ∙ t))
    | inr later ↦
        let (low, at) = place_found qs p later in
        subst (λ k. (k < length (q ∷ qs)) × (get_or (q ∷ qs) k 0 ≡ p)) (sym (ap (λ (b : Bool). if b then 0 else suc (place_in qs p)) t)) (omega (arith, low), at)
  ]
]
  where
    true_false : true ≡ false → ⊥
    true_false e = absurd (cc)

in_ports : (flows : List Flow) (gs : List ℕ) (f : ℕ) → Contains gs f → Contains (map (ingress_of flows) gs) (ingress_of flows f)
in_ports flows [] f has = absurd (nothing_in f has)
in_ports flows (g ∷ gs) f has = ⊎_elim
    (λ e. subst (λ h. Contains (map (ingress_of flows) (g ∷ gs)) (ingress_of flows h)) e (in_first (ingress_of flows g) (map (ingress_of flows) gs)))
    (λ later. in_tail (ingress_of flows g) (map (ingress_of flows) gs) (ingress_of flows f) (in_ports flows gs f later))
    (first_or_tail g gs f has)

flow_of_port : (flows : List Flow) (gs : List ℕ) (p : ℕ) → Contains (map (ingress_of flows) gs) p → (f : ℕ) × Contains gs f × (ingress_of flows f ≡ p)
flow_of_port flows [] p has = absurd (nothing_in p has)
flow_of_port flows (g ∷ gs) p has = ⊎_elim
    (λ e. (g, in_first g gs, e))
    (λ later. let (f, inside, at) = flow_of_port flows gs p later in (f, in_tail g gs f inside, at))
    (first_or_tail (ingress_of flows g) (map (ingress_of flows) gs) p has)

-- the granted flows begin at different ports
pub ports_apart : (flows : List Flow) (gs ports : List ℕ) → ports ≡ map (ingress_of flows) gs → IsClear flows gs → Distinct ports
ports_apart flows gs ports are clear = subst Distinct (sym are) (λ i j d lt low e.
    let long = length-map gs (ingress_of flows) in
    let second : j < length gs = omega (arith, low, long) in
    let first : i < length gs = omega (arith, lt, second) in
    let one : get_or gs i 0 ≡ get_or gs j 0 = clear.apart (get_or gs i 0) (get_or gs j 0) (Contains-get_or gs i 0 first) (Contains-get_or gs j 0 second)
    (inl (sym (get_or-map (ingress_of flows) gs i 0 d first) ∙ e ∙ get_or-map (ingress_of flows) gs j 0 d second)) in
    let order = AllPairs-from_increasing gs clear.ascending i j 0 lt second in
    absurd (omega (arith, order, one)))

-- and they are ports of the fabric
pub ports_below : (o : Opening) (gs ports : List ℕ) (n : ℕ) → ports ≡ map (ingress_of o.table.flows) gs → IsOpening o → IsClear o.table.flows gs → n ≡ o.table.ports →
    All (λ p. p < n) ports
ports_below o gs ports n are within clear many = subst (All (λ p. p < n)) (sym are) (λ k d lt.
    let long = length-map gs (ingress_of o.table.flows) in
    let low : k < length gs = omega (arith, lt, long) in
    let below = port_within o gs within clear (get_or gs k 0) (Contains-get_or gs k 0 low) in
    omega (arith, get_or-map (ingress_of o.table.flows) gs k 0 d low, below, many))

module _ {W : Type 0} (faults : W → ℕ) (runs : W → Option (List (ℕ × ℕ × ℕ))) (flows : List Flow) (gs ports : List ℕ) (are : ports ≡ map (ingress_of flows) gs)
    (v w : View) (before after : List W) (all : IsCrewed faults runs v w ports before after) where
  has_port : (p f : ℕ) → grant_in flows gs p ≡ Some f → Contains ports p
  has_port p f e = let (has, at) = grant_is flows gs p f e in
      subst (λ l. Contains l p) (sym are) (subst (Contains (map (ingress_of flows) gs)) at (in_ports flows gs f has))

  no_port : (p : ℕ) → grant_in flows gs p ≡ None → Contains ports p → ⊥
  no_port p e has = let (f, inside, at) = flow_of_port flows gs p (subst (λ l. Contains l p) are has) in grant_none flows gs p f e inside at

  -- the agents served each port with a grant, and no other wire was touched
  pub crew_served : AreGrantsServed faults runs (grant_in flows gs) v w before after
  crew_served = record {
    posts = all.posts;
    settled = all.settled;
    none_out = all.none_out;
    posted = all.posted;
    apart = all.apart;
    seats = all.seats;
    back = all.back;
    shown = all.shown;
    none_held = all.none_held;
    as_many = all.served.as_many;
    took = λ p. get_or all.served.took (place_in ports p) None;
    each = λ p f b a lt e.
        let (low, at) = place_found ports p (has_port p f e) in
        subst (λ q. IsServed faults runs all.seats q (get_or before q b) (get_or after q a) (get_or all.served.took (place_in ports p) None)) at
        (all.served.each (place_in ports p) b a low);
    rest = λ p b a lt e.
        let many = all.served.as_many in
        get_or_default after p a b (omega (arith, lt, many)) ∙ all.served.rest p b (no_port p e);
  }

-- the wires before a run are those that were in their places
pub of_places : {W : Type 0} (faults : W → ℕ) (runs : W → Option (List (ℕ × ℕ × ℕ))) (v w : View) (ports : List ℕ) (lent own new : List (Option W)) → lent ≡ own →
    IsCrewed faults runs v w ports (wires_of lent) (wires_of new) → IsCrewed faults runs v w ports (wires_of own) (wires_of new)
of_places {W} faults runs v w ports lent own new is all = subst (λ (l : List (Option W)). IsCrewed faults runs v w ports (wires_of l) (wires_of new)) is all
