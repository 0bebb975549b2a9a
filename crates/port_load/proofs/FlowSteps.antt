-- The loads of a list of flows grow by one flow.
use Rattle.std.proofs.Common.{◌≡◌, ◌≢◌, ℕ, ◌+◌, ◌<◌, ◌≤◌, inl, inr, Bool, true, false, List, length, take, take_all, get_or, zero, suc, refl, sym, ap, subst, ◌∙◌, arith}
use Rattle.std.specs.Prelude.{◌==◌, ◌&&◌, if◌then◌else◌, not, slice_index, sum_by, sum}
use Rattle.std.specs.List.{range_with_len}
use Rattle.std.proofs.lemmas.Bool.{both_ways, cases_Bool, cases_eq, eq-eqb, ne_eqb}
use Rattle.std.proofs.lemmas.List.Sums.{sum_by_more, sum_by_more_le}
use Rattle.coflow_units.specs.declared.fabric.Flow.{Flow}
use Rattle.coflow_units.specs.declared.fabric.Port.{Port}
use Rattle.coflow_units.specs.declared.fabric.Side.{Side}
use Rattle.coflow_units.specs.declared.fabric.Side.TheVariants.{Ingress, Egress}
use Rattle.coflow_units.specs.Flows.{flow_at, uses, with_units}
use Rattle.coflow_units.specs.Load.{load, loads}
use Rattle.coflow_units.specs.Ordering.{port_place, port_place_on}
use Rattle.coflow_units.proofs.Sums.{sum_mono, sum_same}
use Rattle.coflow_units.proofs.WhatIsLeft.{left_flow, same_length}
use Rattle.coflow_units.proofs.Ranges.{in_range}
use Rattle.port_load.specs.LoadTable.{HasLoads, IsSameSize, LoadTable, is_present, load_at, total_at}
use Rattle.port_load.proofs.Grid.{range_apart}
use Rattle.port_load.proofs.LoadSums.{within_units}

abbrev pub port_of : Side → ℕ → Port
port_of s n = record { side = s; number = n }

-- units were added at one coflow and one port
pub record AddsAt (old new : LoadTable) (coflow : ℕ) (port : Port) (units : ℕ) : Type 0 where
  pub size : IsSameSize old new
  pub added : load_at new coflow port ≡ load_at old coflow port + units
  pub others : (other : ℕ) → other < old.coflows → other ≢ coflow → load_at new other port ≡ load_at old other port
  pub elsewhere : (other : ℕ) (at : Port) → other < old.coflows → at.number < old.ports → port_place old.ports at ≢ port_place old.ports port →
      load_at new other at ≡ load_at old other at

other_number : (s : Side) (ports m n : ℕ) → m ≢ n → port_place_on s ports m ≢ port_place_on s ports n
other_number Ingress ports m n ne = ne
other_number Egress ports m n ne = λ e. ne (omega (arith, e))

-- the test of a coflow and a port, where both are so, and where one is not
pub test_both : (a c m n u : ℕ) → a ≡ c → m ≡ n → u ≡ (if ((a == c) && (m == n)) then u else 0)
test_both a c m n u e f = sym (rw (eq-eqb a c e, eq-eqb m n f) refl)

test_first : (a c m n u : ℕ) → a ≢ c → 0 ≡ (if ((a == c) && (m == n)) then u else 0)
test_first a c m n u ne = sym (rw (ne_eqb a c ne) refl)

and_second : (b : Bool) (u : ℕ) → 0 ≡ (if (b && false) then u else 0)
and_second true u = refl
and_second false u = refl

test_second : (a c m n u : ℕ) → m ≢ n → 0 ≡ (if ((a == c) && (m == n)) then u else 0)
test_second a c m n u ne = rw (ne_eqb m n ne) (and_second (a == c) u)

-- at the side at which they were added
same_side : (s : Side) (old new : LoadTable) (coflow number units : ℕ) → AddsAt old new coflow (port_of s number) units → (c n : ℕ) → c < old.coflows → n < old.ports →
    load_at new c (port_of s n) ≡ load_at old c (port_of s n) + (if ((coflow == c) && (number == n)) then units else 0)
same_side s old new coflow number units adds c n lc lp = elim (cases_eq number n) [
  | inl same ↦ elim (cases_eq coflow c) [
    | inl e ↦ subst (λ k. load_at new k (port_of s n) ≡ load_at old k (port_of s n) + units) e
        (subst (λ k. load_at new coflow (port_of s k) ≡ load_at old coflow (port_of s k) + units) same adds.added)
        ∙ ap (λ k. load_at old c (port_of s n) + k) (test_both coflow c number n units e same)
    | inr ne ↦ subst (λ k. load_at new c (port_of s k) ≡ load_at old c (port_of s k)) same (adds.others c lc (λ e. ne (sym e)))
        ∙ omega (arith, test_first coflow c number n units ne)
  ]
  | inr ne ↦ adds.elsewhere c (port_of s n) lc lp (other_number s old.ports n number (λ e. ne (sym e))) ∙ omega (arith, test_second coflow c number n units ne)
]

-- a flow was added at its ingress and then at its egress
flow_added_on : (s : Side) (old between new : LoadTable) (x : Flow) → AddsAt old between x.coflow (port_of Ingress x.ingress) x.units →
    AddsAt between new x.coflow (port_of Egress x.egress) x.units →
    x.ingress < old.ports → x.egress < old.ports → (c n : ℕ) → c < old.coflows → n < old.ports →
    load_at new c (port_of s n) ≡ load_at old c (port_of s n) + (if loads c (port_of s n) x then x.units else 0)
flow_added_on Ingress old between new x first second li le c n lc lp =
    let lc' = subst (λ k. c < k) (sym first.size.coflows) lc in
    let lp' = subst (λ k. n < k) (sym first.size.ports) lp in
    second.elsewhere c (port_of Ingress n) lc' lp' (λ e. omega (arith, e, lp')) ∙ same_side Ingress old between x.coflow x.ingress x.units first c n lc lp
flow_added_on Egress old between new x first second li le c n lc lp =
    let lc' = subst (λ k. c < k) (sym first.size.coflows) lc in
    let lp' = subst (λ k. n < k) (sym first.size.ports) lp in
    same_side Egress between new x.coflow x.egress x.units second c n lc' lp'
    ∙ ap (λ k. k + (if loads c (port_of Egress n) x then x.units else 0)) (first.elsewhere c (port_of Egress n) lc lp (λ e. omega (arith, e, li)))

pub flow_added : (old between new : LoadTable) (x : Flow) → AddsAt old between x.coflow (port_of Ingress x.ingress) x.units →
    AddsAt between new x.coflow (port_of Egress x.egress) x.units →
    x.ingress < old.ports → x.egress < old.ports → (c : ℕ) (port : Port) → c < old.coflows → port.number < old.ports →
    load_at new c port ≡ load_at old c port + (if loads c port x then x.units else 0)
flow_added old between new x first second li le c port lc lp = flow_added_on port.side old between new x first second li le c port.number lc lp

-- the total of a port of the other side is as it was
pub total_elsewhere : (old new : LoadTable) (coflow number units n : ℕ) → AddsAt old new coflow (port_of Ingress number) units → number < old.ports → n < old.ports →
    total_at new (port_of Egress n) ≡ total_at old (port_of Egress n)
total_elsewhere old new coflow number units n adds ln lp =
    ap (λ k. sum_by (λ c. load_at new c (port_of Egress n)) (range_with_len 0 k)) adds.size.coflows
    ∙ sum_same (λ c. load_at new c (port_of Egress n)) (λ c. load_at old c (port_of Egress n)) (range_with_len 0 old.coflows)
    (λ c has. adds.elsewhere c (port_of Egress n) (in_range old.coflows c has) lp (λ e. omega (arith, e, ln)))

-- ---- a list of flows, flow by flow

pub total_within : (flows : List Flow) (t : LoadTable) (port : Port) → port.number < t.ports → ((c : ℕ) → c < t.coflows → load_at t c port ≤ load flows c port) →
    total_at t port ≤ sum_by (λ (x : Flow). x.units) flows
total_within flows t port lp most =
    let up = sum_mono (λ c. load_at t c port) (λ c. load flows c port) (range_with_len 0 t.coflows) (λ c has. most c (in_range t.coflows c has)) in
    omega (arith, up, within_units flows (range_with_len 0 t.coflows) port (range_apart t.coflows))

pub load_more : (flows : List Flow) (k c : ℕ) (port : Port) (d : Flow) → k < length flows →
    load (take (k + 1) flows) c port ≡ load (take k flows) c port + (if loads c port (get_or flows k d) then (get_or flows k d).units else 0)
load_more flows k c port d lt = sum_by_more (λ (x : Flow). if loads c port x then x.units else 0) flows k d lt

-- the units left, added up so far
pub units_are_left : (left : List ℕ) (flows : List Flow) (k : ℕ) → length left ≡ length flows → k ≤ length flows →
    sum_by (λ (x : Flow). x.units) (take k (with_units (λ f. slice_index left f) flows)) ≡ sum_by (λ n. n) (take k left)
units_are_left left flows zero same le = refl
units_are_left left flows (suc k) same le =
    let d : Flow = record { coflow = 0; ingress = 0; egress = 0; units = 0 } in
    let e : suc k ≡ k + 1 = omega arith in
    let lt : k < length flows = omega arith in
    let owed = with_units (λ f. slice_index left f) flows in
    ap (λ j. sum_by (λ (x : Flow). x.units) (take j owed)) e ∙ sum_by_more (λ (x : Flow). x.units) owed k d (omega (arith, same_length (λ f. slice_index left f) flows))
    ∙ omega (
      arith,
      units_are_left left flows k same (omega arith),
      ap (λ (x : Flow). x.units) (left_flow (λ f. slice_index left f) flows k d lt),
      sum_by_more (λ n. n) left k 0 (omega arith),
      ap (λ j. sum_by (λ n. n) (take j left)) e,
    )

-- ---- flow by flow with the units left, where the coflow is present

abbrev pub flows_left : List ℕ → List Flow → List Flow
flows_left left flows = with_units (λ f. slice_index left f) flows

-- a flow with the units that it has left
abbrev pub owing_at : List ℕ → List Flow → ℕ → Flow
owing_at left flows k = record { coflow = (flow_at flows k).coflow; ingress = (flow_at flows k).ingress; egress = (flow_at flows k).egress; units = slice_index left k }

pub record FilledSoFar (old new : LoadTable) (flows : List Flow) (left : List ℕ) (present : List Bool) (k : ℕ) : Type 0 where
  pub size : IsSameSize old new
  pub present_are : (c : ℕ) (port : Port) → c < old.coflows → port.number < old.ports → is_present present c ≡ true →
      load_at new c port ≡ load (take k (flows_left left flows)) c port
  pub absent_are : (c : ℕ) (port : Port) → c < old.coflows → port.number < old.ports → is_present present c ≡ false → load_at new c port ≡ 0

pub left_more : (flows : List Flow) (left : List ℕ) (k c : ℕ) (port : Port) → k < length flows →
    load (take (k + 1) (flows_left left flows)) c port ≡ load (take k (flows_left left flows)) c port + (if loads c port (owing_at left flows k) then slice_index left k else 0)
left_more flows left k c port lt =
    let d : Flow = record { coflow = 0; ingress = 0; egress = 0; units = 0 } in
    load_more (flows_left left flows) k c port d (omega (arith, same_length (λ f. slice_index left f) flows))
    ∙ ap (λ (x : Flow). load (take k (flows_left left flows)) c port + (if loads c port x then x.units else 0)) (left_flow (λ f. slice_index left f) flows k d lt)

pub other_coflow : (c u : ℕ) (port : Port) (x : Flow) → x.coflow ≢ c → (if loads c port x then u else 0) ≡ 0
other_coflow c u port x ne = ap (λ b. if (b && uses port x) then u else 0) (ne_eqb x.coflow c ne)

differs : (present : List Bool) (a c : ℕ) (b : Bool) → is_present present a ≡ b → is_present present c ≡ not b → a ≢ c
differs present a c true t f = λ e. both_ways (is_present present a) (ap (is_present present) e ∙ f) t
differs present a c false f t = λ e. both_ways (is_present present a) f (ap (is_present present) e ∙ t)

pub none_of : (b : Bool) (u : ℕ) → u ≡ 0 → (if b then u else 0) ≡ 0
none_of true u e = e
none_of false u e = refl

pub fill_none : (old new : LoadTable) (flows : List Flow) (left : List ℕ) (present : List Bool) → IsSameSize old new →
    ((c : ℕ) (port : Port) → c < old.coflows → port.number < old.ports → load_at new c port ≡ 0) → FilledSoFar old new flows left present 0
fill_none old new flows left present size none = record {
  size = size;
  present_are = λ c port lc lp t. none c port lc lp;
  absent_are = λ c port lc lp f. none c port lc lp;
}

-- a flow that has nothing left adds nothing
pub fill_paid : (old new : LoadTable) (flows : List Flow) (left : List ℕ) (present : List Bool) (k : ℕ) → FilledSoFar old new flows left present k → k < length flows →
    slice_index left k ≡ 0 → FilledSoFar old new flows left present (k + 1)
fill_paid old new flows left present k so_far lt paid = record {
  size = so_far.size;
  present_are = λ c port lc lp t. so_far.present_are c port lc lp t ∙
      omega (arith, left_more flows left k c port lt, none_of (loads c port (owing_at left flows k)) (slice_index left k) paid);
  absent_are = so_far.absent_are;
}

pub fill_skip : (old new : LoadTable) (flows : List Flow) (left : List ℕ) (present : List Bool) (k : ℕ) → FilledSoFar old new flows left present k → k < length flows →
    is_present present (flow_at flows k).coflow ≡ false →
    FilledSoFar old new flows left present (k + 1)
fill_skip old new flows left present k so_far lt out = record {
  size = so_far.size;
  present_are = λ c port lc lp t. so_far.present_are c port lc lp t ∙
      omega (arith, left_more flows left k c port lt, other_coflow c (slice_index left k) port (owing_at left flows k) (differs present (flow_at flows k).coflow c false out t));
  absent_are = so_far.absent_are;
}

pub fill_add : (old between new : LoadTable) (flows : List Flow) (left : List ℕ) (present : List Bool) (k : ℕ) → FilledSoFar old between flows left present k → k < length flows →
    is_present present (flow_at flows k).coflow ≡ true →
    IsSameSize between new → ((c : ℕ) (port : Port) → c < between.coflows → port.number < between.ports →
    load_at new c port ≡ load_at between c port + (if loads c port (owing_at left flows k) then slice_index left k else 0)) →
    FilledSoFar old new flows left present (k + 1)
fill_add old between new flows left present k so_far lt in' size adds =
    let coflow_in = λ (c : ℕ) (lc : c < old.coflows). subst (λ n. c < n) (sym so_far.size.coflows) lc in
    let port_in = λ (port : Port) (lp : port.number < old.ports). subst (λ n. port.number < n) (sym so_far.size.ports) lp in
    record {
      size = record { coflows = size.coflows ∙ so_far.size.coflows; ports = size.ports ∙ so_far.size.ports };
      present_are = λ c port lc lp t. omega (arith, adds c port (coflow_in c lc) (port_in port lp), so_far.present_are c port lc lp t, left_more flows left k c port lt);
      absent_are = λ c port lc lp f.
          omega (
            arith,
            adds c port (coflow_in c lc) (port_in port lp),
            so_far.absent_are c port lc lp f,
            other_coflow c (slice_index left k) port (owing_at left flows k) (differs present (flow_at flows k).coflow c true in' f),
          );
    }

-- the next flow fits
at_most_loads : (old new : LoadTable) (flows : List Flow) (left : List ℕ) (present : List Bool) (k : ℕ) → FilledSoFar old new flows left present k → (port : Port) →
    port.number < old.ports → (c : ℕ) → c < old.coflows → load_at new c port ≤ load (take k (flows_left left flows)) c port
at_most_loads old new flows left present k so_far port lp c lc = elim (cases_Bool (is_present present c)) [
  | inl t ↦ omega (arith, so_far.present_are c port lc lp t)
  | inr f ↦ omega (arith, so_far.absent_are c port lc lp f)
]

pub fill_fits : (old new : LoadTable) (flows : List Flow) (left : List ℕ) (present : List Bool) (k most : ℕ) → FilledSoFar old new flows left present k → k < length flows →
    length left ≡ length flows → sum left ≤ most →
    (port : Port) → port.number < new.ports → total_at new port + slice_index left k ≤ most
fill_fits old new flows left present k most so_far lt same fits port lp =
    let lp' = subst (λ n. port.number < n) so_far.size.ports lp in
    let total = total_within (take k (flows_left left flows)) new port lp
    (λ c lc. at_most_loads old new flows left present k so_far port lp' c (subst (λ n. c < n) so_far.size.coflows lc)) in
    omega (arith, total, units_are_left left flows k same (omega arith), sum_by_more_le (λ n. n) left k 0 (omega (arith, same)), fits)

-- no total is above the units, where all flows are counted
pub filled_within : (old new : LoadTable) (flows : List Flow) (left : List ℕ) (present : List Bool) (k : ℕ) → FilledSoFar old new flows left present k → length flows ≤ k →
    length left ≡ length flows →
    (port : Port) → port.number < old.ports → total_at new port ≤ sum left
filled_within old new flows left present k so_far all same port lp =
    let lp' = subst (λ n. port.number < n) (sym so_far.size.ports) lp in
    let total = total_within (take k (flows_left left flows)) new port lp'
    (λ c lc. at_most_loads old new flows left present k so_far port lp c (subst (λ n. c < n) so_far.size.coflows lc)) in
    let whole = ap (λ xs. sum_by (λ (x : Flow). x.units) xs) (take_all k (flows_left left flows) (omega (arith, same_length (λ f. slice_index left f) flows))) in
    let units = units_are_left left flows (length flows) same (omega arith) in
    let units_whole = ap (λ xs. sum_by (λ (x : Flow). x.units) xs) (take_all (length flows) (flows_left left flows) (omega (arith, same_length (λ f. slice_index left f) flows))) in
    let left_whole = ap (λ xs. sum_by (λ n. n) xs) (take_all (length flows) left (omega (arith, same))) in
    omega (arith, total, whole, units, units_whole, left_whole)

pub loads_within : (flows : List Flow) (t : LoadTable) → HasLoads flows t → (port : Port) → port.number < t.ports → total_at t port ≤ sum_by (λ (x : Flow). x.units) flows
loads_within flows t has port lp = total_within flows t port lp (λ c lc. omega (arith, has c port lc lp))
