-- The slack of a certificate whose rests are below the loads.
use Rattle.std.proofs.Common.{ℕ, ◌+◌, ◌*◌, ◌≤◌, ◌<◌, ◌^◌, inl, inr, List, [], ◌∷◌, length, ap, arith, le_trans, le_of_lt, ◌-◌}
use Rattle.std.specs.Prelude.{All}
use Rattle.std.proofs.Math.Nat.{mul-le-mul_right}
use Rattle.std.proofs.lemmas.Nat.{div-add-mod'}
use Rattle.std.proofs.lemmas.List.Sums.{sum_by-cons}
use Rattle.std.proofs.lemmas.List.Elements.{All-head, All-tail}
use Rattle.coflow_units.specs.declared.fabric.Flow.{Flow}
use Rattle.coflow_units.specs.declared.fabric.Port.{Port}
use Rattle.coflow_units.specs.Flows.{Instance}
use Rattle.coflow_units.specs.Load.{load, load_of_all}
use Rattle.coflow_units.specs.Certificate.{Entry, IsBelowLoads, IsCertificate, div_up, front, front_load, front_loads, over_places, own_loads, rest, scale, slack, unspent}
use Rattle.coflow_units.proofs.Numbers.{div_up_least, zero_or_more}
use Rattle.coflow_units.proofs.Sums.{in_first, member_within_sum}

div_up_within : (n d : ℕ) → 0 < d → d * div_up n d < n + d
div_up_within n d some = omega (arith, div-add-mod' (n + (d - 1)) d)

-- the placed coflow's load is part of its front's
own_within : (flows : List Flow) (e : Entry) (before : List Entry) → load flows e.coflow e.port ≤ front_load flows (e ∷ before)
own_within flows e before = member_within_sum (λ c. load flows c e.port) (front (e ∷ before)) e.coflow (in_first e.coflow (front before))

-- the loads of a port over the places before are no greater
tail_cap : (flows : List Flow) (ports k : ℕ) (e : Entry) (before : List Entry) → ((port : Port) → port.number < ports → load_of_all flows (front (e ∷ before)) port ≤ k) →
    (port : Port) → port.number < ports → load_of_all flows (front before) port ≤ k
tail_cap flows ports k e before cap port lt = le_trans (omega (arith, sum_by-cons (λ c. load flows c port) e.coflow (front before))) (cap port lt)

term_own : (r l b : ℕ) → (0 < b → r < l) → r * b ≤ l * b
term_own r l b below = elim (zero_or_more b) [
  | inl e ↦ omega (arith, ap (λ n. r * n) e)
  | inr some ↦ mul-le-mul_right b (le_of_lt (below some))
]

rests_own : (flows : List Flow) (rests : ℕ → ℕ) (entries : List Entry) → IsBelowLoads flows rests entries → over_places flows rests entries ≤ own_loads flows entries
rests_own flows rests [] below = omega arith
rests_own flows rests (e ∷ before) below =
    omega (arith, term_own (rests e.coflow) (load flows e.coflow e.port) (front_load flows (e ∷ before)) below.0, rests_own flows rests before below.1)

term_cap : (r l b k : ℕ) → (0 < b → r < l) → l ≤ b → b ≤ k → r * b ≤ k * b
term_cap r l b k below own cap = elim (zero_or_more b) [
  | inl e ↦ omega (arith, ap (λ n. r * n) e)
  | inr some ↦ mul-le-mul_right b (le_trans (le_of_lt (below some)) (le_trans own cap))
]

rests_cap : (flows : List Flow) (ports k : ℕ) (rests : ℕ → ℕ) (entries : List Entry) → All (λ (e : Entry). e.port.number < ports) entries → IsBelowLoads flows rests entries →
    ((port : Port) → port.number < ports → load_of_all flows (front entries) port ≤ k) → over_places flows rests entries ≤ k * front_loads flows entries
rests_cap flows ports k rests [] inside below cap = omega arith
rests_cap flows ports k rests (e ∷ before) inside below cap =
    let here = cap e.port (All-head (λ (x : Entry). x.port.number < ports) e before inside) in
    let term = term_cap (rests e.coflow) (load flows e.coflow e.port) (front_load flows (e ∷ before)) k below.0 (own_within flows e before) here in
    omega (arith, term, rests_cap flows ports k rests before (All-tail (λ (x : Entry). x.port.number < ports) e before inside) below.1 (tail_cap flows ports k e before cap))

fronts_cap : (flows : List Flow) (ports k : ℕ) (entries : List Entry) → All (λ (e : Entry). e.port.number < ports) entries →
    ((port : Port) → port.number < ports → load_of_all flows (front entries) port ≤ k) → front_loads flows entries ≤ length entries * k
fronts_cap flows ports k [] inside cap = omega arith
fronts_cap flows ports k (e ∷ before) inside cap =
    let here = cap e.port (All-head (λ (x : Entry). x.port.number < ports) e before inside) in
    omega (arith, here, fronts_cap flows ports k before (All-tail (λ (x : Entry). x.port.number < ports) e before inside) (tail_cap flows ports k e before cap))

pub slack_by_loads : (i : Instance) (entries : List Entry) → IsBelowLoads i.flows (rest i.flows i.weight entries) entries →
    scale * slack i.flows i.weight entries < 2 * own_loads i.flows entries + scale
slack_by_loads i entries below =
    omega (arith, div_up_within (2 * unspent i.flows i.weight entries) scale (omega arith), rests_own i.flows (rest i.flows i.weight entries) entries below)

pub slack_by_fronts : (i : Instance) (entries : List Entry) → IsCertificate i entries → IsBelowLoads i.flows (rest i.flows i.weight entries) entries →
    ((port : Port) → port.number < i.ports → load_of_all i.flows (front entries) port ≤ scale) → slack i.flows i.weight entries ≤ 2 * front_loads i.flows entries
slack_by_fronts i entries certificate below cap =
    div_up_least (2 * unspent i.flows i.weight entries) scale (2 * front_loads i.flows entries) (omega arith)
    (omega (arith, rests_cap i.flows i.ports scale (rest i.flows i.weight entries) entries certificate.port below cap))

pub slack_two_each : (i : Instance) (entries : List Entry) → IsCertificate i entries → IsBelowLoads i.flows (rest i.flows i.weight entries) entries →
    ((port : Port) → port.number < i.ports → load_of_all i.flows (front entries) port ≤ 2 ^ 20) → slack i.flows i.weight entries ≤ 2 * length entries
slack_two_each i entries certificate below cap =
    div_up_least (2 * unspent i.flows i.weight entries) scale (2 * length entries) (omega arith)
    (omega (
      arith,
      rests_cap i.flows i.ports (2 ^ 20) (rest i.flows i.weight entries) entries certificate.port below cap,
      fronts_cap i.flows i.ports (2 ^ 20) entries certificate.port cap,
    ))
