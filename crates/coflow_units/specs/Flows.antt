-- Flows, and the instances of which the laws speak. Flows have numbers: their places in the list of flows.
use Rattle.std.specs.Prelude.{◌≡◌, ◌≢◌, ℕ, ◌+◌, ◌<◌, ◌≤◌, ◌⊎◌, ◌==◌, Bool, List, [], ◌∷◌, All, AllPairs, Contains}
use Rattle.std.specs.Prelude.{length}
use Rattle.std.specs.List.{range_with_len, slice_index_or}
use Rattle.std.specs.List.Sorted.{IsStrictlyIncreasing}
use Rattle.coflow_units.specs.declared.fabric.Flow.{Flow}
use Rattle.coflow_units.specs.declared.fabric.Port.{Port}
use Rattle.coflow_units.specs.declared.fabric.Side.{Side}
use Rattle.coflow_units.specs.declared.fabric.Side.TheVariants.{Ingress, Egress}

-- the flow with a number; a number past the end has zeros, and is read only where the number is known to be a flow's
abbrev pub flow_at : List Flow → ℕ → Flow
flow_at flows f = slice_index_or flows f record { coflow = 0; ingress = 0; egress = 0; units = 0 }

-- the number of the coflow that a flow belongs to
abbrev pub coflow_of : List Flow → ℕ → ℕ
coflow_of flows f = (flow_at flows f).coflow

-- the number of the ingress port at which a flow begins
abbrev pub ingress_of : List Flow → ℕ → ℕ
ingress_of flows f = (flow_at flows f).ingress

-- the number of the egress port at which a flow ends
abbrev pub egress_of : List Flow → ℕ → ℕ
egress_of flows f = (flow_at flows f).egress

-- how many units a flow has
abbrev pub units_of : List Flow → ℕ → ℕ
units_of flows f = (flow_at flows f).units

-- the number of the port at which a flow stands on a side
abbrev pub end_at : Side → Flow → ℕ
end_at Ingress x = x.ingress
end_at Egress x = x.egress

-- the flow begins or ends at the port
abbrev pub uses : Port → Flow → Bool
uses port x = end_at port.side x == port.number

-- the two flows have a port in common
abbrev pub SharesPort : List Flow → ℕ → ℕ → Type 0
SharesPort flows f g = (ingress_of flows f ≡ ingress_of flows g) ⊎ (egress_of flows f ≡ egress_of flows g)

-- no element stands twice
abbrev pub IsDistinct : List ℕ → Type 0
IsDistinct xs = AllPairs (λ (x : ℕ) (y : ℕ). x ≢ y) xs

-- the numbers of the coflows that are present, their weights, the number of ports on each side, and the flows
pub record Instance : Type 0 where
  pub coflows : List ℕ
  pub weight : ℕ → ℕ
  pub ports : ℕ
  pub flows : List Flow

-- The coflows stand in ascending order, a flow with units is of one of them, and the ports of flows are in range.
-- Coflows may have any numbers, and a flow may have no units: so what is left of an instance, with the coflows that are
-- present, is an instance over the same flow numbers.
pub record IsInstance (i : Instance) : Type 0 where
  pub ascending : IsStrictlyIncreasing i.coflows
  pub has_ports : 1 ≤ i.ports
  pub coflow : All (λ (x : Flow). 0 < x.units → Contains i.coflows x.coflow) i.flows
  pub ingress : All (λ (x : Flow). x.ingress < i.ports) i.flows
  pub egress : All (λ (x : Flow). x.egress < i.ports) i.flows

-- flows come by coflow, then ingress, then egress
abbrev pub FlowBefore : Flow → Flow → Type 0
FlowBefore x y =
    (x.coflow < y.coflow)
    ⊎ ((x.coflow ≡ y.coflow) × ((x.ingress < y.ingress) ⊎ ((x.ingress ≡ y.ingress) × (x.egress < y.egress))))

-- an instance as a trace gives it: coflows count from 0, weights and units are at least 1, and no two flows agree in
-- coflow, ingress and egress
pub record IsWhole (i : Instance) : Type 0 where
  pub instance : IsInstance i
  pub numbered : i.coflows ≡ range_with_len 0 (length i.coflows)
  pub weights : All (λ c. 1 ≤ i.weight c) i.coflows
  pub units : All (λ (x : Flow). 1 ≤ x.units) i.flows
  pub sorted : (k : ℕ) (d : Flow) → k + 1 < length i.flows →
      FlowBefore (slice_index_or i.flows k d) (slice_index_or i.flows (k + 1) d)

-- the flows from a number on, each with the units given for its number
abbrev pub with_units_from : ℕ → (ℕ → ℕ) → List Flow → List Flow
with_units_from k units [] = []
with_units_from k units (x ∷ xs) =
    record { coflow = x.coflow; ingress = x.ingress; egress = x.egress; units = units k } ∷ with_units_from (k + 1)
    units xs

-- the same flows, each with the units given for its number, as those that it has left
abbrev pub with_units : (ℕ → ℕ) → List Flow → List Flow
with_units units flows = with_units_from 0 units flows
