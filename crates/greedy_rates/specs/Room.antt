-- What is told of the grants of a slot: the granted flows, and the one at each ingress.
use Rattle.std.specs.Prelude.{◌≡◌, ℕ, ◌<◌, ◌≤◌, ◌^◌, ◌↔◌, List, Contains, Option, None, Some}
use Rattle.std.specs.List.{slice_index_or}
use Rattle.coflow_units.specs.declared.fabric.Flow.{Flow}
use Rattle.coflow_units.specs.Flows.{ingress_of}

-- the number of ports on each side, the granted flows, and for each ingress the flow that stands at it
pub record Grants : Type 0 where
  pub ports : ℕ
  pub flows : List ℕ
  pub at : List (Option ℕ)

-- the room is for as many flows as there are ports, and as many marks
pub record HasRoom (ports count listed busy : ℕ) : Type 0 where
  pub ports_limit : ports < 2 ^ 32
  pub count_fits : count ≤ listed
  pub listed_len : listed ≡ ports
  pub busy_len : busy ≡ ports

-- the flow that stands at an ingress; none stands past the ports
abbrev pub flow_at_ingress : List (Option ℕ) → ℕ → Option ℕ
flow_at_ingress at ingress = slice_index_or at ingress None

-- the flow at an ingress is the granted one that begins there
abbrev pub TellsIngresses : List Flow → List ℕ → List (Option ℕ) → Type 0
TellsIngresses flows granted at = (ingress f : ℕ) →
    (flow_at_ingress at ingress ≡ Some f) ↔ (Contains granted f × (ingress_of flows f ≡ ingress))
