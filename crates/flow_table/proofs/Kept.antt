-- The flows of a trace have all units.
use Rattle.std.proofs.Common.{◌≡◌, ℕ, ◌+◌, ◌<◌, ◌≤◌, Bool, true, false, List, [], length, sym, ◌∙◌, arith}
use Rattle.std.specs.Prelude.{All, sum_by, ◌==◌, ◌&&◌, slice_index}
use Rattle.std.specs.List.{range_with_len}
use Rattle.std.proofs.lemmas.List.Elements.{All-contains}
use Rattle.coflow_units.specs.declared.fabric.Flow.{Flow}
use Rattle.coflow_units.specs.declared.trace.CoflowLine.{CoflowLine}
use Rattle.coflow_units.specs.declared.trace.Reducer.{Reducer}
use Rattle.coflow_units.specs.declared.trace.Trace.{Trace}
use Rattle.coflow_units.specs.Trace.{IsCoflowLine, IsTrace}
use Rattle.coflow_units.proofs.Lists.{by_number, number_in, numbers_apart}
use Rattle.coflow_units.proofs.Sums.{picked_one, sum_same, sum_swap, sum_zero}
use Rattle.coflow_units.proofs.Ranges.{in_range}
use Rattle.flow_table.specs.FlowsOf.{IsFlowsOf, units_between}
use Rattle.flow_table.specs.Units.{share, units_in_all, units_of_line, units_of_reducer}
use Rattle.flow_table.specs.Sent.{line_of, places, sent, sent_by, sent_of}
use Rattle.flow_table.proofs.FlowOrder.{term}
use Rattle.flow_table.proofs.Shares.{picked, shares_are_all}
use Rattle.flow_table.proofs.Within.{flows_within}

abbrev below : ℕ → List ℕ
below n = range_with_len 0 n

-- a sum over all numbers that picks one of them
pub pick : (n a w : ℕ) → a < n → sum_by (λ i. picked (a == i) w) (below n) ≡ w
pick n a w lt = picked_one a (λ i. w) (below n) (numbers_apart 0 n) (number_in 0 n a (omega arith) (omega arith))

-- one flow, over all keys
module _ (x : Flow) (coflows ports : ℕ) (lc : x.coflow < coflows) (li : x.ingress < ports) (le : x.egress < ports) where
  over_egress : (c i : ℕ) → sum_by (λ e. term c i e x) (below ports) ≡ picked (x.coflow == c) (picked (x.ingress == i) x.units)
  over_egress c i = go (x.coflow == c) (x.ingress == i)
    where
      go : (a b : Bool) → sum_by (λ e. picked (a && (b && (x.egress == e))) x.units) (below ports) ≡ picked a (picked b x.units)
      go true true = pick ports x.egress x.units le
      go true false = sum_zero (below ports)
      go false b = sum_zero (below ports)

  over_ingress : (c : ℕ) → sum_by (λ i. picked (x.coflow == c) (picked (x.ingress == i) x.units)) (below ports) ≡ picked (x.coflow == c) x.units
  over_ingress c = go (x.coflow == c)
    where
      go : (a : Bool) → sum_by (λ i. picked a (picked (x.ingress == i) x.units)) (below ports) ≡ picked a x.units
      go true = pick ports x.ingress x.units li
      go false = sum_zero (below ports)

  pub over_keys : sum_by (λ c. sum_by (λ i. sum_by (λ e. term c i e x) (below ports)) (below ports)) (below coflows) ≡ x.units
  over_keys =
      sum_same (λ c. sum_by (λ i. sum_by (λ e. term c i e x) (below ports)) (below ports)) (λ c. picked (x.coflow == c) x.units) (below coflows)
      (λ c has. sum_same (λ i. sum_by (λ e. term c i e x) (below ports)) (λ i. picked (x.coflow == c) (picked (x.ingress == i) x.units)) (below ports) (λ i has. over_egress c i) ∙
      over_ingress c)
      ∙ pick coflows x.coflow x.units lc

-- the units of all flows, key by key
module _ (flows : List Flow) (coflows ports : ℕ) where
  pub by_keys : All (λ (x : Flow). x.coflow < coflows) flows → All (λ (x : Flow). x.ingress < ports) flows → All (λ (x : Flow). x.egress < ports) flows
      → sum_by (λ c. sum_by (λ i. sum_by (λ e. units_between flows c i e) (below ports)) (below ports)) (below coflows) ≡ sum_by (λ (x : Flow). x.units) flows
  by_keys lc li le =
      sum_same (λ c. sum_by (λ i. sum_by (λ e. units_between flows c i e) (below ports)) (below ports))
      (λ c. sum_by (λ x. sum_by (λ i. sum_by (λ e. term c i e x) (below ports)) (below ports)) flows) (below coflows)
      (λ c has. sum_same (λ i. sum_by (λ e. units_between flows c i e) (below ports)) (λ i. sum_by (λ x. sum_by (λ e. term c i e x) (below ports)) flows) (below ports)
      (λ i has. sum_swap (λ e x. term c i e x) (below ports) flows)
      ∙ sum_swap (λ i x. sum_by (λ e. term c i e x) (below ports)) (below ports) flows)
      ∙ sum_swap (λ c x. sum_by (λ i. sum_by (λ e. term c i e x) (below ports)) (below ports)) (below coflows) flows
      ∙ sum_same (λ x. sum_by (λ c. sum_by (λ i. sum_by (λ e. term c i e x) (below ports)) (below ports)) (below coflows)) (λ x. x.units) flows
      (λ x has. over_keys x coflows ports (All-contains (λ (y : Flow). y.coflow < coflows) flows x lc has) (All-contains (λ (y : Flow). y.ingress < ports) flows x li has)
      (All-contains (λ (y : Flow). y.egress < ports) flows x le has))

-- a coflow sends all units of its reducers
module _ (unit number : ℕ) (x : CoflowLine) (line : IsCoflowLine number x) where
  of_reducer : (units : ℕ) → sum_by (λ i. sent_of x units i) (below (number + 1)) ≡ units
  of_reducer units =
      sum_swap (λ i place. picked (slice_index x.mappers place == i) (share (length x.mappers) units place)) (below (number + 1)) (places x)
      ∙ sum_same (λ place. sum_by (λ i. picked (slice_index x.mappers place == i) (share (length x.mappers) units place)) (below (number + 1)))
      (λ place. share (length x.mappers) units place) (places x)
      (λ place has. pick (number + 1) (slice_index x.mappers place) (share (length x.mappers) units place)
      (omega (arith, line.mappers place 0 (in_range (length x.mappers) place has))))
      ∙ shares_are_all (length x.mappers) units line.has_mapper

  pub of_line : sum_by (λ i. sum_by (λ e. sent_by unit x i e) (below (number + 1))) (below (number + 1)) ≡ units_of_line unit x
  of_line =
      sum_same (λ i. sum_by (λ e. sent_by unit x i e) (below (number + 1))) (λ i. sum_by (λ (r : Reducer). sent_of x (units_of_reducer unit r) i) x.reducers) (below (number + 1))
      (λ i has. sum_swap (λ e (r : Reducer). picked (r.location == e) (sent_of x (units_of_reducer unit r) i)) (below (number + 1)) x.reducers
      ∙ sum_same (λ (r : Reducer). sum_by (λ e. picked (r.location == e) (sent_of x (units_of_reducer unit r) i)) (below (number + 1))) (λ r. sent_of x (units_of_reducer unit r) i)
      x.reducers
      (λ r has. pick (number + 1) r.location (sent_of x (units_of_reducer unit r) i)
      (omega (arith, All-contains (λ (y : Reducer). y.location ≤ number) x.reducers r line.reducers has))))
      ∙ sum_swap (λ i (r : Reducer). sent_of x (units_of_reducer unit r) i) (below (number + 1)) x.reducers
      ∙ sum_same (λ (r : Reducer). sum_by (λ i. sent_of x (units_of_reducer unit r) i) (below (number + 1))) (λ r. units_of_reducer unit r) x.reducers
      (λ r has. of_reducer (units_of_reducer unit r))

pub all_kept : (t : Trace) (unit : ℕ) (flows : List Flow) → IsTrace t → IsFlowsOf t unit flows → sum_by (λ (x : Flow). x.units) flows ≡ units_in_all t unit
all_kept t unit flows trace h =
    let within = flows_within t unit flows trace h in
    let n = length t.coflows in
    let ports = t.number + 1 in
    sym (by_keys flows n ports within.coflow within.ingress within.egress)
    ∙ sum_same (λ c. sum_by (λ i. sum_by (λ e. units_between flows c i e) (below ports)) (below ports)) (λ c. units_of_line unit (line_of t c)) (below n)
    (λ c has. sum_same (λ i. sum_by (λ e. units_between flows c i e) (below ports)) (λ i. sum_by (λ e. sent t unit c i e) (below ports)) (below ports)
    (λ i has. sum_same (λ e. units_between flows c i e) (λ e. sent t unit c i e) (below ports) (λ e has. h.sent c i e))
    ∙ of_line unit t.number (line_of t c) (trace.lines c _ (in_range n c has)))
    ∙ sym (by_number (λ (x : CoflowLine). units_of_line unit x) record { id = 0; arrival = 0; mappers = []; reducers = [] } t.coflows)
