-- The table of a trace.
use Rattle.std.proofs.Common.{◌≡◌, ℕ, ◌+◌, ◌-◌, ◌^◌, ◌<◌, ◌≤◌, inl, inr, List, drop, get_or, length, map, take, sym, ap, ◌∙◌, arith}
use Rattle.std.specs.Prelude.{filter, slice_index, ◌==◌}
use Rattle.std.specs.List.Sorted.{IsNonDecreasingBy}
use Rattle.std.proofs.lemmas.Bool.{eq-eqb, ne_eqb}
use Rattle.std.proofs.lemmas.List.{get_or_default, length-map}
use Rattle.std.proofs.lemmas.List.Sorted.{IsNonDecreasingBy-from_all_adjacent}
use Rattle.coflow_units.specs.declared.fabric.Flow.{Flow}
use Rattle.coflow_units.specs.declared.trace.CoflowLine.{CoflowLine}
use Rattle.coflow_units.specs.declared.trace.Trace.{Trace}
use Rattle.coflow_units.specs.Flows.{FlowBefore, coflow_of}
use Rattle.coflow_units.specs.Trace.{IsTrace, ids_of}
use Rattle.coflow_units.specs.Starts.{IsStarts}
use Rattle.flow_table.specs.FlowsOf.{IsFlowsOf}
use Rattle.flow_table.specs.Table.{IsTable, TableFacts}
use Rattle.flow_table.specs.Units.{units_in_all}
use Rattle.flow_table.proofs.FlowOrder.{InOrder}
use Rattle.flow_table.proofs.Kept.{all_kept}
use Rattle.flow_table.proofs.SpotSteps.{part_is_filter}
use Rattle.flow_table.proofs.Within.{flows_within}

-- flows in order stand coflow by coflow
pub coflows_ascend : (flows : List Flow) → InOrder flows → IsNonDecreasingBy (λ (x : Flow). x.coflow) flows
coflows_ascend flows h = IsNonDecreasingBy-from_all_adjacent (λ (x : Flow). x.coflow) flows (λ k d lt. not_past (get_or flows k d) (get_or flows (k + 1) d) (h k d lt))
  where
    not_past : (x y : Flow) → FlowBefore x y → x.coflow ≤ y.coflow
    not_past x y (inl lt) = omega arith
    not_past x y (inr (e, later)) = omega arith

pub table_is : (t : Trace) (unit : ℕ) (flows : List Flow) (starts ids arrivals : List ℕ) → IsTrace t → units_in_all t unit ≤ 2 ^ 40 → IsFlowsOf t unit flows →
    length flows ≤ 2 ^ 20 → length starts ≡ length t.coflows + 1 → IsStarts flows starts
    → ((c : ℕ) → c < length t.coflows → slice_index starts c ≤ slice_index starts (c + 1)) → ids ≡ ids_of t.coflows → arrivals ≡ map (λ (x : CoflowLine). x.arrival) t.coflows
    → IsTable record { flows = flows; starts = starts; ports = t.number + 1; ids = ids; arrivals = arrivals }
table_is t unit flows starts ids arrivals trace few_units of_trace few starts_len starts_are rise ids_are arrivals_are =
    let within = flows_within t unit flows trace of_trace in
    let count : length ids ≡ length t.coflows = ap length ids_are ∙ length-map t.coflows (λ (x : CoflowLine). x.id) in
    let count' : length arrivals ≡ length t.coflows = ap length arrivals_are ∙ length-map t.coflows (λ (x : CoflowLine). x.arrival) in
    record {
      few_coflows = omega (arith, count, trace.few_coflows);
      has_ports = omega (arith, trace.has_ports);
      few_ports = omega (arith, trace.few_ports);
      few_flows = few;
      few_units = omega (arith, all_kept t unit flows trace of_trace);
      arrivals = count' ∙ sym count;
      coflow = λ k d lt. omega (arith, within.coflow k d lt, count);
      ingress = within.ingress;
      egress = within.egress;
      units = of_trace.units;
      sorted = of_trace.sorted;
      starts_len = omega (arith, starts_len, count);
      starts = starts_are;
      starts_rise = λ c lt. rise c (omega (arith, count));
    }

-- the flows between a start and the next one are those of the coflow
module _ (t : TableFacts) (c : ℕ) (h : IsTable t) (lt : c < length t.ids) where
  long : c + 1 < length t.starts
  long = omega (arith, h.starts_len)

  -- a flow of the coflow stands between them
  stands : (k : ℕ) (d : Flow) → k < length t.flows → (get_or t.flows k d).coflow ≡ c → (slice_index t.starts c ≤ k) × (k < slice_index t.starts (c + 1))
  stands k d k< same =
      let is : coflow_of t.flows k ≡ c = ap (λ (x : Flow). x.coflow) (get_or_default t.flows k record { coflow = 0; ingress = 0; egress = 0; units = 0 } d k<) ∙ same in
      let (start, low, high) = h.starts.all k k< in
      (omega (arith, low, ap (λ n. slice_index t.starts n) is), omega (arith, high, ap (λ n. slice_index t.starts (n + 1)) is))

  pub part_of_coflow : take (slice_index t.starts (c + 1) - slice_index t.starts c) (drop (slice_index t.starts c) t.flows) ≡ filter (λ (x : Flow). x.coflow == c) t.flows
  part_of_coflow =
      let end_in = h.starts.within (c + 1) 0 long in
      part_is_filter (λ (x : Flow). x.coflow == c) t.flows (slice_index t.starts c) (slice_index t.starts (c + 1)) (h.starts_rise c lt) end_in
      (λ k d k<. ne_eqb (get_or t.flows k d).coflow c (λ same. omega (arith, (stands k d (omega (arith, h.starts_rise c lt)) same).0)))
      (λ k d low high. eq-eqb (get_or t.flows k d).coflow c
      (ap (λ (x : Flow). x.coflow) (get_or_default t.flows k d record { coflow = 0; ingress = 0; egress = 0; units = 0 } (omega arith)) ∙ h.starts.own c k long low high))
      (λ k d low k<. ne_eqb (get_or t.flows k d).coflow c (λ same. omega (arith, (stands k d k< same).1)))
