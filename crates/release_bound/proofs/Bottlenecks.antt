-- A coflow of a table has load exactly where it has flows.
use Rattle.std.proofs.Common.{◌≡◌, ℕ, ◌+◌, ◌*◌, ◌<◌, ◌≤◌, inl, inr, true, List, [], ◌∷◌, length, map, refl, ap, ◌∙◌, arith}
use Rattle.std.specs.Prelude.{◌==◌, if◌then◌else◌, Contains, slice_index, sum_by}
use Rattle.std.specs.List.{range_with_len}
use Rattle.std.proofs.lemmas.Bool.{and_from, and_parts, cases_Bool, eq-eqb, eqb-true, ne_eqb}
use Rattle.std.proofs.lemmas.List.{get_or_default}
use Rattle.std.proofs.lemmas.List.Elements.{Contains-append_left, Contains-get_or}
use Rattle.std.proofs.lemmas.List.Sums.{sum_by-cons}
use Rattle.coflow_units.specs.declared.fabric.Flow.{Flow}
use Rattle.coflow_units.specs.declared.fabric.Port.{Port}
use Rattle.coflow_units.specs.declared.fabric.Side.TheVariants.{Egress, Ingress}
use Rattle.coflow_units.specs.Flows.{coflow_of, flow_at, uses}
use Rattle.coflow_units.specs.Load.{load, loads}
use Rattle.coflow_units.proofs.Ranges.{sum_next}
use Rattle.coflow_units.proofs.Sums.{first_or_tail, in_tail, nothing_in, sum_same, sum_zero}
use Rattle.flow_table.specs.Table.{IsTable, TableFacts}
use Rattle.port_load.proofs.Grid.{below_in}
use Rattle.release_bound.specs.Release.{all_ports, bottleneck, greatest_of}
use Rattle.release_bound.proofs.ArrivalSteps.{greatest_above}
use Rattle.release_bound.proofs.LateLaw.{in_map, member_within_sums}

-- ---- lists

greatest_none : {X : Type 0} (w : X → ℕ) (xs : List X) → ((x : X) → w x ≡ 0) → greatest_of (map w xs) ≡ 0
greatest_none w [] none = refl
greatest_none w (x ∷ xs) none = omega (arith, none x, greatest_none w xs none)

-- ---- load

abbrev no_flow : Flow
no_flow = record { coflow = 0; ingress = 0; egress = 0; units = 0 }

abbrev part : ℕ → Port → Flow → ℕ
part c port x = if loads c port x then x.units else 0

has_load : (flows : List Flow) (ports c f : ℕ) → f < length flows → coflow_of flows f ≡ c → (flow_at flows f).ingress < ports → 1 ≤ (flow_at flows f).units →
    1 ≤ bottleneck flows ports c
has_load flows ports c f lt of in' some =
    let x = flow_at flows f in
    let port : Port = record { side = Ingress; number = x.ingress } in
    let at = Contains-append_left (map (λ k. record { side = Ingress; number = k }) (range_with_len 0 ports))
    (map (λ k. record { side = Egress; number = k }) (range_with_len 0 ports)) port
    (in_map (λ (k : ℕ). record { side = Ingress; number = k }) (range_with_len 0 ports) x.ingress (below_in ports x.ingress in')) in
    let yes' : loads c port x ≡ true = and_from (x.coflow == c) (x.ingress == x.ingress) (eq-eqb x.coflow c of) (eq-eqb x.ingress x.ingress refl) in
    let here : part c port x ≡ x.units = ap {B = ℕ} (λ b. if b then x.units else 0) yes' in
    omega (
      arith,
      some,
      here,
      member_within_sums (part c port) flows x (Contains-get_or flows f no_flow lt),
      greatest_above (map (load flows c) (all_ports ports)) (load flows c port) (in_map (load flows c) (all_ports ports) port at),
    )

no_load : (flows : List Flow) (ports c : ℕ) → ((f : ℕ) → f < length flows → coflow_of flows f ≡ c → ⊥) → bottleneck flows ports c ≡ 0
no_load flows ports c none = greatest_none (load flows c) (all_ports ports) (λ port. sum_same (part c port) (λ x. 0) flows (other port) ∙ sum_zero flows)
  where
    other : (port : Port) (x : Flow) → Contains flows x → part c port x ≡ 0
    other port x (k, lt, at) = elim (cases_Bool (loads c port x)) [
      | inl yes' ↦
          let of : x.coflow ≡ c = eqb-true x.coflow c (and_parts (x.coflow == c) (uses port x) yes').0 in
          absurd (none k lt (ap (λ (y : Flow). y.coflow) (get_or_default flows k no_flow x lt ∙ at) ∙ of))
      | inr not' ↦ ap {B = ℕ} (λ b. if b then x.units else 0) not'
    ]

pub some_flow : (t : TableFacts) (c : ℕ) → IsTable t → c < length t.ids → slice_index t.starts c < slice_index t.starts (c + 1) → 1 ≤ bottleneck t.flows t.ports c
some_flow t c table lt some =
    let f = slice_index t.starts c in
    let next : c + 1 < length t.starts = omega (arith, lt, table.starts_len) in
    let inside : f < length t.flows = omega (arith, some, table.starts.within (c + 1) 0 next) in
    has_load t.flows t.ports c f inside (table.starts.own c f next (omega arith) some) (table.ingress f no_flow inside) (table.units f no_flow inside)

pub no_flows : (t : TableFacts) (c : ℕ) → IsTable t → c < length t.ids → slice_index t.starts (c + 1) ≤ slice_index t.starts c → bottleneck t.flows t.ports c ≡ 0
no_flows t c table lt none = no_load t.flows t.ports c (λ f inside of.
    let (_, from, to) = table.starts.all f inside in
    omega (arith, none, from, to, ap (λ k. slice_index t.starts k) of, ap (λ k. slice_index t.starts (k + 1)) of))

-- ---- what arrivals cost

-- what the arrival of the coflow costs
abbrev pub arrival_part : TableFacts → List ℕ → List ℕ → ℕ → ℕ
arrival_part t weights arrivals c = if bottleneck t.flows t.ports c == 0 then 0 else slice_index weights c * slice_index arrivals c

-- that of the coflows with numbers below n
abbrev pub arrivals_below : TableFacts → List ℕ → List ℕ → ℕ → ℕ
arrivals_below t weights arrivals n = sum_by (arrival_part t weights arrivals) (range_with_len 0 n)

pub one_counts : (t : TableFacts) (weights arrivals : List ℕ) (c : ℕ) → IsTable t → c < length t.ids → slice_index t.starts c < slice_index t.starts (c + 1) →
    arrivals_below t weights arrivals (c + 1) ≡ arrivals_below t weights arrivals c + slice_index weights c * slice_index arrivals c
one_counts t weights arrivals c table lt some =
    let loaded = ne_eqb (bottleneck t.flows t.ports c) 0 (λ e. omega (arith, e, some_flow t c table lt some)) in
    sum_next (arrival_part t weights arrivals) c ∙
    ap (λ b. arrivals_below t weights arrivals c + (if b then 0 else slice_index weights c * slice_index arrivals c)) loaded

pub one_counts_not : (t : TableFacts) (weights arrivals : List ℕ) (c : ℕ) → IsTable t → c < length t.ids → slice_index t.starts (c + 1) ≤ slice_index t.starts c →
    arrivals_below t weights arrivals (c + 1) ≡ arrivals_below t weights arrivals c
one_counts_not t weights arrivals c table lt none =
    let empty = eq-eqb (bottleneck t.flows t.ports c) 0 (no_flows t c table lt none) in
    let added = ap {B = ℕ} (λ b. if b then 0 else slice_index weights c * slice_index arrivals c) empty in
    omega (arith, sum_next (arrival_part t weights arrivals) c, added)
