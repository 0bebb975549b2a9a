-- The flows of a trace.
use Rattle.std.specs.Prelude.{◌≡◌, ℕ, ◌+◌, ◌^◌, ◌<◌, ◌≤◌, ◌⊎◌, ◌==◌, ◌&&◌, List, All, length, if◌then◌else◌, sum_by}
use Rattle.coflow_units.specs.declared.limits.TheConstants.{MAX_FLOWS}
use Rattle.std.specs.List.{slice_index_or}
use Rattle.coflow_units.specs.declared.fabric.Flow.{Flow}
use Rattle.coflow_units.specs.declared.trace.Trace.{Trace}
use Rattle.coflow_units.specs.Flows.{FlowBefore}
use Rattle.flow_table.specs.Sent.{sent}

-- the units that flows of the coflow from the ingress to the egress have in all
abbrev pub units_between : List Flow → ℕ → ℕ → ℕ → ℕ
units_between flows coflow ingress egress =
    sum_by (λ (x : Flow). if (x.coflow == coflow) && ((x.ingress == ingress) && (x.egress == egress)) then x.units
    else 0) flows

-- The flows stand by coflow, then ingress, then egress, and no two of them agree in all three. Each has a unit, and
-- they have what is sent, by coflow, ingress and egress.
pub record HaveUnits (sends : ℕ → ℕ → ℕ → ℕ) (flows : List Flow) : Type 0 where
  pub sorted : (k : ℕ) (d : Flow) → k + 1 < length flows →
      FlowBefore (slice_index_or flows k d) (slice_index_or flows (k + 1) d)
  pub units : All (λ (x : Flow). 1 ≤ x.units) flows
  pub sent : (coflow ingress egress : ℕ) → units_between flows coflow ingress egress ≡ sends coflow ingress egress

-- the flows of a trace where a unit has so many megabytes; what sends nothing has no flow
abbrev pub IsFlowsOf : Trace → ℕ → List Flow → Type 0
IsFlowsOf t unit flows = HaveUnits (sent t unit) flows

-- each list that has what is sent is longer than 2^20
abbrev pub IsTooMany : (ℕ → ℕ → ℕ → ℕ) → Type 0
IsTooMany sends = (flows : List Flow) → HaveUnits sends flows → MAX_FLOWS < length flows

-- a coflow, an ingress and an egress come before others
abbrev pub IsEarlier : ℕ → ℕ → ℕ → ℕ → ℕ → ℕ → Type 0
IsEarlier coflow ingress egress coflow' ingress' egress' =
    (coflow < coflow') ⊎ ((coflow ≡ coflow') × ((ingress < ingress') ⊎ ((ingress ≡ ingress') × (egress < egress'))))

-- The flows that come before the coflow, the ingress and the egress.
pub record HaveUnitsBefore (sends : ℕ → ℕ → ℕ → ℕ) (coflow ingress egress : ℕ) (flows : List Flow) : Type 0 where
  pub sorted : (k : ℕ) (d : Flow) → k + 1 < length flows →
      FlowBefore (slice_index_or flows k d) (slice_index_or flows (k + 1) d)
  pub units : All (λ (x : Flow). 1 ≤ x.units) flows
  pub before : All (λ (x : Flow). IsEarlier x.coflow x.ingress x.egress coflow ingress egress) flows
  pub sent : (c i e : ℕ) → IsEarlier c i e coflow ingress egress → units_between flows c i e ≡ sends c i e
