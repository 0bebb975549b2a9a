-- The table of flows, and its instance.
use Rattle.std.specs.Prelude.{◌≡◌, ℕ, ◌+◌, ◌<◌, ◌≤◌, ◌^◌, List, All, length, map, slice_index, sum_by}
use Rattle.coflow_units.specs.declared.limits.TheConstants.{MAX_COFLOWS, MAX_FLOWS, MAX_PORTS, MAX_UNITS}
use Rattle.std.specs.List.{range_with_len, slice_index_or}
use Rattle.coflow_units.specs.declared.fabric.Flow.{Flow}
use Rattle.coflow_units.specs.declared.trace.CoflowLine.{CoflowLine}
use Rattle.coflow_units.specs.declared.trace.Trace.{Trace}
use Rattle.coflow_units.specs.Flows.{FlowBefore, Instance}
use Rattle.coflow_units.specs.Trace.{ids_of}
use Rattle.coflow_units.specs.Starts.{IsStarts}
use Rattle.flow_table.specs.FlowsOf.{IsFlowsOf}

-- what a table tells: the flows, the first flow of each coflow with the number of flows at the end, the number of ports
-- on each side, and the id and the arrival of each coflow
pub record TableFacts : Type 0 where
  pub flows : List Flow
  pub starts : List ℕ
  pub ports : ℕ
  pub ids : List ℕ
  pub arrivals : List ℕ

-- The coflows, the ports, the flows and the units are within their limits. The flows stand by coflow, then ingress,
-- then egress, each has a unit, and those of a coflow stand between its start and the next one.
pub record IsTable (t : TableFacts) : Type 0 where
  pub few_coflows : length t.ids ≤ MAX_COFLOWS
  pub has_ports : 2 ≤ t.ports
  pub few_ports : t.ports ≤ MAX_PORTS + 1
  pub few_flows : length t.flows ≤ MAX_FLOWS
  pub few_units : sum_by (λ (x : Flow). x.units) t.flows ≤ MAX_UNITS
  pub arrivals : length t.arrivals ≡ length t.ids
  pub coflow : All (λ (x : Flow). x.coflow < length t.ids) t.flows
  pub ingress : All (λ (x : Flow). x.ingress < t.ports) t.flows
  pub egress : All (λ (x : Flow). x.egress < t.ports) t.flows
  pub units : All (λ (x : Flow). 1 ≤ x.units) t.flows
  pub sorted : (k : ℕ) (d : Flow) → k + 1 < length t.flows →
      FlowBefore (slice_index_or t.flows k d) (slice_index_or t.flows (k + 1) d)
  pub starts_len : length t.starts ≡ length t.ids + 1
  pub starts : IsStarts t.flows t.starts
  pub starts_rise : (c : ℕ) → c < length t.ids → slice_index t.starts c ≤ slice_index t.starts (c + 1)

-- the table is that of the trace, where a unit has so many megabytes
pub record IsTableOf (trace : Trace) (unit : ℕ) (t : TableFacts) : Type 0 where
  pub flows : IsFlowsOf trace unit t.flows
  pub ports : t.ports ≡ trace.number + 1
  pub ids : t.ids ≡ ids_of trace.coflows
  pub arrivals : t.arrivals ≡ map (λ (x : CoflowLine). x.arrival) trace.coflows

-- the instance of a table and a weight for each coflow
abbrev pub instance_of : TableFacts → List ℕ → Instance
instance_of t weights = record {
  coflows = range_with_len 0 (length t.ids);
  weight = λ coflow. slice_index weights coflow;
  ports = t.ports;
  flows = t.flows;
}
