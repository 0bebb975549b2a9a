-- Tables of loads, and what they say of flows.
use Rattle.std.specs.Prelude.{◌≡◌, ◌≢◌, ℕ, ◌+◌, ◌*◌, ◌<◌, ◌==◌, Bool, false, not, List, [], ◌∷◌, All, filter}
use Rattle.std.specs.Prelude.{slice_index, sum_by}
use Rattle.std.specs.List.{list_any, range_with_len, slice_index_or}
use Rattle.coflow_units.specs.declared.fabric.Flow.{Flow}
use Rattle.coflow_units.specs.declared.fabric.Port.{Port}
use Rattle.coflow_units.specs.Load.{load}
use Rattle.coflow_units.specs.Ordering.{port_place}

-- the number of coflows, the number of ports on each side, and for each port, all ingress ports before all egress
-- ports, the loads of the coflows by number
pub record LoadTable : Type 0 where
  pub coflows : ℕ
  pub ports : ℕ
  pub cells : List ℕ

-- the load of a coflow on a port
abbrev pub load_at : LoadTable → ℕ → Port → ℕ
load_at t coflow port = slice_index t.cells (port_place t.ports port * t.coflows + coflow)

-- the load of all coflows on a port
abbrev pub total_at : LoadTable → Port → ℕ
total_at t port = sum_by (λ coflow. load_at t coflow port) (range_with_len 0 t.coflows)

-- the coflows and the ports of the flows are in range
pub record IsWithin (flows : List Flow) (coflows ports : ℕ) : Type 0 where
  pub coflow : All (λ (x : Flow). x.coflow < coflows) flows
  pub ingress : All (λ (x : Flow). x.ingress < ports) flows
  pub egress : All (λ (x : Flow). x.egress < ports) flows

-- the table has the loads of these flows, for each coflow and each port
abbrev pub HasLoads : List Flow → LoadTable → Type 0
HasLoads flows t = (coflow : ℕ) (port : Port) → coflow < t.coflows → port.number < t.ports →
    load_at t coflow port ≡ load flows coflow port

-- the two tables have the same numbers of coflows and ports
pub record IsSameSize (old new : LoadTable) : Type 0 where
  pub coflows : new.coflows ≡ old.coflows
  pub ports : new.ports ≡ old.ports

-- the coflow has no load any more, and each other coflow has its loads
pub record DropsCoflow (old new : LoadTable) (coflow : ℕ) : Type 0 where
  pub size : IsSameSize old new
  pub gone : (port : Port) → port.number < old.ports → load_at new coflow port ≡ 0
  pub others : (other : ℕ) (port : Port) → other < old.coflows → other ≢ coflow → port.number < old.ports →
      load_at new other port ≡ load_at old other port

-- the coflows are dropped one after another
abbrev pub DropsAll : LoadTable → LoadTable → List ℕ → Type 0
DropsAll old new [] = new ≡ old
DropsAll old new (c ∷ cs) = (between : LoadTable) × DropsCoflow old between c × DropsAll between new cs

-- the flows of the coflows that are not among these
abbrev pub flows_without : List ℕ → List Flow → List Flow
flows_without dropped flows = filter (λ (x : Flow). not (list_any (λ c. c == x.coflow) dropped)) flows

-- the coflow is marked as present
abbrev pub is_present : List Bool → ℕ → Bool
is_present present coflow = slice_index_or present coflow false
