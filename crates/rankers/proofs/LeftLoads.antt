-- The loads of what flows have left.
use Rattle.std.proofs.Common.{◌≡◌, ℕ, ◌+◌, ◌<◌, ◌≤◌, inl, inr, Bool, true, false, List, [], ◌∷◌, length, get_or, replicate, refl, sym, ap, ◌∙◌, arith, suc}
use Rattle.std.specs.Prelude.{All, ◌==◌, ◌&&◌, if◌then◌else◌, map, slice_index, sum}
use Rattle.std.proofs.lemmas.Bool.{cases_Bool, eqb-true}
use Rattle.std.proofs.lemmas.List.Sums.{sum_by-cons}
use Rattle.coflow_units.specs.declared.fabric.Flow.{Flow}
use Rattle.coflow_units.specs.declared.fabric.Port.{Port}
use Rattle.coflow_units.specs.Flows.{coflow_of, uses, with_units, with_units_from}
use Rattle.coflow_units.specs.Load.{load, loads}
use Rattle.coflow_units.specs.declared.plan.Place.{Place}
use Rattle.coflow_units.specs.Flows.{Instance}
use Rattle.bssi_order.specs.Order.{IsOf, IsOrder, entries_of}
use Rattle.bssi_order.proofs.AllCoflows.{all_coflows}
use Rattle.flow_table.specs.Table.{TableFacts, instance_of}
use Rattle.port_load.specs.Bottleneck.{IsBottleneck}
use Rattle.port_load.specs.LoadTable.{HasLoads, IsSameSize, LoadTable, is_present, load_at, total_at}
use Rattle.rankers.specs.FactsTold.{IsBssiOrder, with_left}
use Rattle.rankers.proofs.AllMarked.{all_marked}
use Rattle.rankers.proofs.Greatest.{bottlenecks_within}
use Rattle.rankers.proofs.PlaceOrders.{order_of_places}

abbrev with_these : (ℕ → ℕ) → ℕ → Flow → Flow
with_these units k x = record { coflow = x.coflow; ingress = x.ingress; egress = x.egress; units = units k }

abbrev adds : ℕ → Port → Flow → ℕ
adds c port x = if loads c port x then x.units else 0

same_adds : (a b : ℕ → ℕ) (k c : ℕ) (port : Port) (x : Flow) → (x.coflow ≡ c → a k ≡ b k) → adds c port (with_these a k x) ≡ adds c port (with_these b k x)
same_adds a b k c port x same = elim (cases_Bool (x.coflow == c)) [
  | inl t ↦ ap (λ n. adds c port record { coflow = x.coflow; ingress = x.ingress; egress = x.egress; units = n }) (same (eqb-true x.coflow c t))
  | inr f ↦ ap (λ z. if z && uses port (with_these a k x) then a k else 0) f ∙ sym (ap (λ z. if z && uses port (with_these b k x) then b k else 0) f)
]

-- the load of a coflow is that of what its own flows have
same_loads_from : (a b : ℕ → ℕ) (k c : ℕ) (port : Port) (xs : List Flow) → ((j : ℕ) → j < length xs → coflow_of xs j ≡ c → a (k + j) ≡ b (k + j)) →
    load (with_units_from k a xs) c port ≡ load (with_units_from k b xs) c port
same_loads_from a b k c port [] same = refl
same_loads_from a b k c port (x ∷ xs) same =
    let here : k + 0 ≡ k = omega arith in
    let first = same_adds a b k c port x (λ e. ap a (sym here) ∙ same 0 (omega arith) e ∙ ap b here) in
    let rest = same_loads_from a b (k + 1) c port xs (λ j lt e. let at : k + 1 + j ≡ k + suc j = omega arith in ap a at ∙ same (suc j) (omega arith) e ∙ ap b (sym at)) in
    sum_by-cons (adds c port) (with_these a k x) (with_units_from (k + 1) a xs) ∙ ap (λ n. n + load (with_units_from (k + 1) a xs) c port) first ∙
    ap (λ n. adds c port (with_these b k x) + n) rest
    ∙ sym (sum_by-cons (adds c port) (with_these b k x) (with_units_from (k + 1) b xs))

same_loads : (a b : ℕ → ℕ) (flows : List Flow) (c : ℕ) (port : Port) → ((f : ℕ) → f < length flows → coflow_of flows f ≡ c → a f ≡ b f) →
    load (with_units a flows) c port ≡ load (with_units b flows) c port
same_loads a b flows c port same =
    same_loads_from a b 0 c port flows (λ f lt e. let at : 0 + f ≡ f = omega arith in ap a at ∙ same f lt e ∙ ap b (sym at))

nothing_if : (b : Bool) → ◌≡◌ {A = ℕ} (if b then 0 else 0) 0
nothing_if true = refl
nothing_if false = refl

no_load_from : (k : ℕ) (flows : List Flow) (c : ℕ) (port : Port) → load (with_units_from k (λ f. 0) flows) c port ≡ 0
no_load_from k [] c port = refl
no_load_from k (x ∷ xs) c port = omega (
  arith,
  sum_by-cons (adds c port) (with_these (λ f. 0) k x) (with_units_from (k + 1) (λ f. 0) xs),
  nothing_if (loads c port (with_these (λ f. 0) k x)),
  no_load_from (k + 1) xs c port,
)

-- the units that a flow has left, where its coflow is present, and else 0
abbrev pub left_of_present : List Flow → List ℕ → List Bool → ℕ → ℕ
left_of_present flows left present f = if is_present present (coflow_of flows f) then slice_index left f else 0

-- the table has the loads of those coflows that are present
pub record HasLoadsOfPresent (old new : LoadTable) (flows : List Flow) (left : List ℕ) (present : List Bool) : Type 0 where
  pub size : IsSameSize old new
  pub present_are : (coflow : ℕ) (port : Port) → coflow < old.coflows → port.number < old.ports → is_present present coflow ≡ true →
      load_at new coflow port ≡ load (with_units (λ f. slice_index left f) flows) coflow port
  pub absent_are : (coflow : ℕ) (port : Port) → coflow < old.coflows → port.number < old.ports → is_present present coflow ≡ false → load_at new coflow port ≡ 0

pub loads_of_present : (old new : LoadTable) (flows : List Flow) (left : List ℕ) (present : List Bool) (units : ℕ → ℕ) → HasLoadsOfPresent old new flows left present →
    ((f : ℕ) → f < length flows → units f ≡ left_of_present flows left present f) → HasLoads (with_units units flows) new
loads_of_present old new flows left present units has units_are = λ c port lc lp.
    let lc' : c < old.coflows = omega (arith, lc, has.size.coflows) in
    let lp' : port.number < old.ports = omega (arith, lp, has.size.ports) in
    let mark = λ (f : ℕ) (of : coflow_of flows f ≡ c). ap (is_present present) of in
    elim (cases_Bool (is_present present c)) [
      | inl here ↦ has.present_are c port lc' lp' here ∙
          same_loads (λ f. slice_index left f) units flows c port
          (λ f lt of. sym (units_are f lt ∙ ap (λ b. if b then slice_index left f else 0) (mark f of ∙ here)))
      | inr away ↦ has.absent_are c port lc' lp' away ∙ sym (no_load_from 0 flows c port) ∙
          same_loads (λ f. 0) units flows c port (λ f lt of. sym (units_are f lt ∙ ap (λ b. if b then slice_index left f else 0) (mark f of ∙ away)))
    ]

-- the order of all coflows by the loads of those that are present
pub order_of_present : (t : TableFacts) (weights left : List ℕ) (present everyone : List Bool) (old new : LoadTable) (places : List Place) (order : List ℕ) (units : ℕ → ℕ) →
    HasLoadsOfPresent old new t.flows left present → new.coflows ≡ length t.ids → new.ports ≡ t.ports → All (λ mark. mark ≡ true) everyone → length everyone ≡ length t.ids →
    ((i : Instance) → IsOf i new weights everyone → IsOrder i places) → order ≡ map (λ (x : Place). x.coflow) places →
    ((f : ℕ) → f < length t.flows → units f ≡ left_of_present t.flows left present f) → IsBssiOrder (with_left t units) weights order
order_of_present t weights left present everyone old new places order units has coflows ports marked each ordered is units_are =
    let loads = loads_of_present old new t.flows left present units has units_are in
    let all : everyone ≡ replicate (length t.ids) true = all_marked everyone marked ∙ ap (λ n. replicate n true) each in
    let told = ordered (instance_of (with_left t units) weights)
    (all_coflows (length t.ids) t.ports (with_units units t.flows) weights new everyone everyone refl all coflows ports loads) in
    record { entries = entries_of places; ordering = told.ordering; order_is = is ∙ order_of_places places }

-- the greatest loads are within the units that are left
pub few_units_left : (t : LoadTable) (bottlenecks left : List ℕ) → length bottlenecks ≡ t.coflows → ((c : ℕ) → c < t.coflows → IsBottleneck t c (get_or bottlenecks c 0)) →
    ((port : Port) → port.number < t.ports → total_at t port ≤ sum left) → sum left ≤ 1099511627776 → All (λ b. b ≤ 1099511627776) bottlenecks
few_units_left t bottlenecks left count greatest totals few =
    bottlenecks_within t bottlenecks 1099511627776 count (λ port low. omega (arith, totals port low, few)) greatest
