-- What a ranker is asked of at a moment is one.
use Rattle.std.proofs.Common.{◌≡◌, ℕ, ◌+◌, ◌*◌, ◌-◌, ◌/◌, ◌%◌, ◌<◌, inl, inr, List, get_or, length, sym, ap, subst, ◌∙◌, arith}
use Rattle.std.proofs.lemmas.Bool.{cases_lt}
use Rattle.std.proofs.lemmas.List.{ext_get_or}
use Rattle.std.proofs.lemmas.Nat.{div-add-mod', div_below, mod_below}
use Rattle.coflow_units.specs.declared.fabric.Flow.{Flow}
use Rattle.coflow_units.specs.declared.fabric.Port.{Port}
use Rattle.coflow_units.specs.declared.fabric.Side.{Side}
use Rattle.coflow_units.specs.declared.fabric.Side.TheVariants.{Egress, Ingress}
use Rattle.coflow_units.specs.Certificate.{order_of}
use Rattle.coflow_units.proofs.Numbers.{zero_or_more}
use Rattle.coflow_units.proofs.OrderingLaws.{one_ordering}
use Rattle.flow_table.specs.Table.{TableFacts, instance_of}
use Rattle.port_load.specs.Bottleneck.{IsBottleneck}
use Rattle.port_load.specs.LoadTable.{HasLoads, LoadTable}
use Rattle.rankers.specs.FactsTold.{FactsTold, IsBssiOrder, IsFacts, IsFactsOf, coflows_in, with_left}
use Rattle.replays.specs.Moments.{Input, IsAsked, Moment, left_here}

-- ---- loads

abbrev with_cells : ℕ → ℕ → List ℕ → LoadTable
with_cells coflows ports cells = record { coflows = coflows; ports = ports; cells = cells }

abbrev port_on : Side → ℕ → Port
port_on side number = record { side = side; number = number }

module _ (flows : List Flow) (coflows ports : ℕ) (a b : List ℕ) (ha : HasLoads flows (with_cells coflows ports a)) (hb : HasLoads flows (with_cells coflows ports b)) where
  abbrev IsSameAt : ℕ → Type 0
  IsSameAt k = get_or a k 0 ≡ get_or b k 0

  same_cell : (row c : ℕ) → row < ports + ports → c < coflows → IsSameAt (row * coflows + c)
  same_cell row c inside lt = elim (cases_lt row ports) [
    | inl low ↦ ha c (port_on Ingress row) lt low ∙ sym (hb c (port_on Ingress row) lt low)
    | inr high ↦
        let low : row - ports < ports = omega (arith, high, inside) in
        let e : ports + (row - ports) ≡ row = omega (arith, high) in
        subst (λ r. IsSameAt (r * coflows + c)) e (ha c (port_on Egress (row - ports)) lt low ∙ sym (hb c (port_on Egress (row - ports)) lt low))
  ]

  same_place : (k : ℕ) → k < (ports + ports) * coflows → IsSameAt k
  same_place k lt = elim (zero_or_more coflows) [
    | inl none ↦ absurd (omega (arith, lt, ap (λ n. (ports + ports) * n) none))
    | inr some ↦
        subst IsSameAt (div-add-mod' k coflows) (same_cell (k / coflows) (k % coflows) (div_below k coflows (ports + ports) some lt) (mod_below k coflows some))
  ]

  same_cells : length a ≡ (ports + ports) * coflows → length b ≡ (ports + ports) * coflows → a ≡ b
  same_cells la lb = ext_get_or 0 a b (la ∙ sym lb) (λ k lt. same_place k (omega (arith, lt, la)))

-- a table of loads with a cell for each port and coflow is the only one with the loads of these flows
same_loads : (flows : List Flow) (a b : LoadTable) → a.coflows ≡ b.coflows → a.ports ≡ b.ports → length a.cells ≡ (a.ports + a.ports) * a.coflows →
    length b.cells ≡ (b.ports + b.ports) * b.coflows → HasLoads flows a → HasLoads flows b → a ≡ b
same_loads flows a b coflows ports la lb ha hb =
    let as_a : b ≡ with_cells a.coflows a.ports b.cells = ap (λ n. with_cells n b.ports b.cells) (sym coflows) ∙ ap (λ p. with_cells a.coflows p b.cells) (sym ports) in
    let lb' = subst (λ (t : LoadTable). length t.cells ≡ (t.ports + t.ports) * t.coflows) as_a lb in
    let hb' = subst (HasLoads flows) as_a hb in
    ap (with_cells a.coflows a.ports) (same_cells flows a.coflows a.ports a.cells b.cells ha hb' la lb') ∙ sym as_a

-- ---- facts

bottleneck_one : (t : LoadTable) (c m n : ℕ) → IsBottleneck t c m → IsBottleneck t c n → m ≡ n
bottleneck_one t c m n is_m is_n =
    let (p, low, at) = is_m.some in
    let (q, inside, is) = is_n.some in
    omega (arith, is_m.most q inside, is, is_n.most p low, at)

order_one : (t : TableFacts) (weights a b : List ℕ) → IsBssiOrder t weights a → IsBssiOrder t weights b → a ≡ b
order_one t weights a b is_a is_b = is_a.order_is ∙ ap order_of (one_ordering (instance_of t weights) is_a.entries is_b.entries is_a.ordering is_b.ordering) ∙ sym is_b.order_is

abbrev of_parts : List ℕ → List ℕ → List ℕ → LoadTable → List ℕ → FactsTold
of_parts weights arrivals bottlenecks loads order = record {
  weights = weights;
  arrivals = arrivals;
  bottlenecks = bottlenecks;
  loads = loads;
  order = order;
}

module _ (t : TableFacts) (weights : List ℕ) (f g : FactsTold) (is_f : IsFacts f) (of_f : IsFactsOf t weights f) (is_g : IsFacts g) (of_g : IsFactsOf t weights g) where
  weights_same : f.weights ≡ g.weights
  weights_same = of_f.weights_are ∙ sym of_g.weights_are

  count_same : coflows_in f ≡ coflows_in g
  count_same = ap (λ (l : List ℕ). length l) weights_same

  loads_same : f.loads ≡ g.loads
  loads_same =
      let coflows = is_f.coflows ∙ count_same ∙ sym is_g.coflows in
      let ports = of_f.ports_are ∙ sym of_g.ports_are in
      same_loads t.flows f.loads g.loads coflows ports is_f.cells_len is_g.cells_len of_f.loads_are of_g.loads_are

  bottlenecks_same : f.bottlenecks ≡ g.bottlenecks
  bottlenecks_same = ext_get_or 0 f.bottlenecks g.bottlenecks (is_f.bottlenecks_len ∙ count_same ∙ sym is_g.bottlenecks_len) (λ c lt.
      let low : c < coflows_in f = omega (arith, lt, is_f.bottlenecks_len) in
      let of_the_other = subst (λ l. IsBottleneck l c (get_or g.bottlenecks c 0)) (sym loads_same) (is_g.bottleneck c (omega (arith, low, count_same))) in
      bottleneck_one f.loads c (get_or f.bottlenecks c 0) (get_or g.bottlenecks c 0) (is_f.bottleneck c low) of_the_other)

  facts_same : f ≡ g
  facts_same =
      ap (λ w. of_parts w f.arrivals f.bottlenecks f.loads f.order) weights_same ∙
      ap (λ a. of_parts g.weights a f.bottlenecks f.loads f.order) (of_f.arrivals_are ∙ sym of_g.arrivals_are) ∙
      ap (λ b. of_parts g.weights g.arrivals b f.loads f.order) bottlenecks_same ∙
      ap (λ l. of_parts g.weights g.arrivals g.bottlenecks l f.order) loads_same ∙
      ap (of_parts g.weights g.arrivals g.bottlenecks g.loads) (order_one t weights f.order g.order of_f.order_is of_g.order_is)

pub facts_one : (x : Input) (m : Moment) (f g : FactsTold) → IsAsked x m f → IsAsked x m g → f ≡ g
facts_one x m f g is_f is_g = facts_same (with_left x.table (left_here x m)) x.weights f g is_f.facts_hold is_f.facts_are is_g.facts_hold is_g.facts_are
