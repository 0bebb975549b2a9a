-- The granted flows begin at ports of their own, and are taken one after the other.
use Rattle.std.proofs.Common.{◌≡◌, ◌==◌, inl, ℕ, ◌+◌, ◌<◌, ◌≤◌, List, [], ◌∷◌, ◌++◌, get_or, length, map, take, position, true≢false, Option, Some, None, refl, sym, ap, subst}
use Rattle.std.proofs.Common.{◌∙◌, arith}
use Rattle.std.specs.Prelude.{Contains}
use Rattle.std.proofs.lemmas.List.{get_or-map, get_or-take, get_or_default, length-map, length-take-le, map_push, take_more}
use Rattle.std.proofs.lemmas.Bool.{eq-eqb}
use Rattle.std.proofs.lemmas.List.Sums.{fails_before_first}
use Rattle.std.proofs.lemmas.List.Kept.{AllPairs-from_increasing}
use Rattle.std.proofs.lemmas.List.Elements.{All-contains}
use Rattle.coflow_units.specs.declared.fabric.Flow.{Flow}
use Rattle.coflow_units.specs.Flows.{ingress_of}
use Rattle.coflow_units.specs.Schedule.{IsClear}
use Rattle.coflow_units.proofs.Fronts.{none_length}
use Rattle.coflow_units.proofs.Sums.{nothing_in}
use Rattle.journal.specs.declared.command.Entry.{Entry}
use Rattle.journal.specs.declared.opening.Opening.{Opening}
use Rattle.journal.specs.Fold.{state_of}
use Rattle.journal.specs.Journal.{IsLegal}
use Rattle.journal.specs.Runs.{flow_at, flows_granted, grant_in}
use Rattle.journal.specs.Sound.{InRange, IsOpenRun, OnRun}
use Rattle.journal.specs.State.{IsOpening, Run}
use Rattle.journal.proofs.Sound.{legal_sound}
use Rattle.client_session.specs.Grants.{all_granted, flow_granted}

-- one element more is taken
pub take_next : {Y : Type 0} (w : ℕ → Y) (xs : List ℕ) (k x : ℕ) → k < length xs → get_or xs k x ≡ x → map w (take (k + 1) xs) ≡ map w (take k xs) ++ w x ∷ []
take_next w xs k x lt is = ap (map w) (take_more xs k x lt) ∙ map_push w (take k xs) (get_or xs k x) ∙ ap (λ y. map w (take k xs) ++ w y ∷ []) is

-- the ports beside the flows
pub beside : (flows : List Flow) (granted ports : List ℕ) (k d : ℕ) → ports ≡ map (ingress_of flows) granted → k < length ports →
    (k < length granted) × (get_or ports k d ≡ ingress_of flows (get_or granted k 0)) × (get_or granted k (get_or granted k 0) ≡ get_or granted k 0)
beside flows granted ports k d is lt =
    let long = length-map granted (ingress_of flows) in
    let low : k < length granted = omega (arith, lt, ap (λ (l : List ℕ). length l) is, long) in
    (low, ap (λ l. get_or l k d) is ∙ get_or-map (ingress_of flows) granted k 0 d low, get_or_default granted k (get_or granted k 0) 0 low)

-- the flow and the port in one place of the two lists
pub stands : (flows : List Flow) (granted xs ys : List ℕ) (k f port : ℕ) → xs ≡ granted → ys ≡ map (ingress_of flows) granted → k < length xs →
    ((d : ℕ) → f ≡ get_or xs k d) → ((d : ℕ) → port ≡ get_or ys k d) → (k < length granted) × (get_or granted k f ≡ f) × (port ≡ ingress_of flows f)
stands flows granted xs ys k f port x y lt at there =
    let low : k < length granted = subst (λ l. k < length l) x lt in
    let is : get_or granted k f ≡ f = sym (at f ∙ ap (λ l. get_or l k f) x) in
    (low, is, there 0 ∙ ap (λ l. get_or l k 0) y ∙ get_or-map (ingress_of flows) granted k f 0 low ∙ ap (ingress_of flows) is)

-- a list in which the port has no place does not have it
pub none_listed : (ports : List ℕ) (port : ℕ) → position (λ p. p == port) ports ≡ None → Contains ports port → ⊥
none_listed ports port e (k, low, at) =
    let past = none_length (λ p. p == port) ports (sym e) in
    true≢false (sym (eq-eqb (get_or ports k port) port at) ∙ fails_before_first (λ p. p == port) ports k port (omega (arith, low, past)))

-- the ingress of a granted flow is a port
pub port_within : (o : Opening) (granted : List ℕ) → IsOpening o → IsClear o.table.flows granted → (f : ℕ) → Contains granted f → ingress_of o.table.flows f < o.table.ports
port_within o granted within clear f has =
    within.table.ingress f (record { coflow = 0; ingress = 0; egress = 0; units = 0 }) (All-contains (λ (x : ℕ). x < length o.table.flows) granted f clear.flow has)

-- what stands among the first ones has a place before them
taken_at : (xs : List ℕ) (k x : ℕ) → k ≤ length xs → Contains (take k xs) x → (i : ℕ) × (i < k) × (i < length xs) × (get_or xs i x ≡ x)
taken_at xs k x few (i, low, at) =
    let long = length-take-le k xs few in
    let less : i < k = omega (arith, low, long) in
    let within : i < length xs = omega (arith, low, long) in
    (i, less, within, sym (get_or-take k xs i x less) ∙ at)

-- no flow before the one in this place begins at its port
pub taken_apart : (flows : List Flow) (granted : List ℕ) (k f : ℕ) → k < length granted → get_or granted k f ≡ f → IsClear flows granted →
    (g : ℕ) → Contains (take k granted) g → ingress_of flows g ≡ ingress_of flows f → ⊥
taken_apart flows granted k f lt is clear g has same =
    let (i, low, within, at) = taken_at granted k g (omega (arith, lt)) has in
    let there : Contains granted f = (k, lt, is) in
    let here : Contains granted g = (i, within, at) in
    let one : g ≡ f = clear.apart g f here there (inl same) in
    let order = AllPairs-from_increasing granted clear.ascending i k f low lt in
    let first : get_or granted i f ≡ g = get_or_default granted i f g within ∙ at in
    absurd (omega (arith, order, first, is, one))

-- what an open run grants is clear, and none is granted where no run is open
clear_in : (o : Opening) (sent : ℕ → ℕ) (next : ℕ) (run : Option Run) → OnRun run (IsOpenRun o.table.flows sent next) → IsClear o.table.flows (flows_granted run)
clear_in o sent next None sound = record {
  ascending = λ k lt. absurd (omega (arith, lt));
  flow = λ k d lt. absurd (omega (arith, lt));
  apart = λ f g in'. absurd (nothing_in f in');
}
clear_in o sent next (Some r) sound = sound.clear

pub clear_granted : (o : Opening) (journal : List Entry) → IsLegal o journal → InRange o journal → IsClear o.table.flows (all_granted o journal)
clear_granted o journal legal ok = let s = state_of o journal in clear_in o s.sent s.next s.run (legal_sound o journal legal ok).open_run

told_in : (flows : List Flow) (run : Option Run) (port : ℕ) → flow_at flows run port ≡ grant_in flows (flows_granted run) port
told_in flows None port = refl
told_in flows (Some r) port = refl

-- what is granted at a port is among the granted flows
pub told_at : (o : Opening) (journal : List Entry) (port : ℕ) → flow_granted o journal port ≡ grant_in o.table.flows (all_granted o journal) port
told_at o journal port = told_in o.table.flows (state_of o journal).run port
