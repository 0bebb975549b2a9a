-- The ordering certificate: from the last place to the first, take the port with the greatest load, place the coflow
-- there whose budget is used up first, and let each coflow pay for its load on the port.
-- This is bottleneck, select, scale, iterate of Sincronia (Agarwal and others, SIGCOMM 2018), in exact arithmetic over
-- budgets in parts of 2^40; the rules for ties are this project's.
use Rattle.std.specs.Prelude.{◌≡◌, ℕ, ◌<◌, ◌≤◌, ◌+◌, ◌-◌, ◌*◌, ◌/◌, ◌⊎◌, List, [], ◌∷◌, Contains, sum_by}
use Rattle.coflow_units.specs.declared.fabric.Flow.{Flow}
use Rattle.coflow_units.specs.declared.fabric.Port.{Port}
use Rattle.coflow_units.specs.declared.fabric.Side.{Side}
use Rattle.coflow_units.specs.declared.fabric.Side.TheVariants.{Ingress, Egress}
use Rattle.coflow_units.specs.Flows.{Instance}
use Rattle.coflow_units.specs.Load.{load, load_of_all}
use Rattle.coflow_units.specs.Certificate.{Entry, IsCertificate, budget, front}

-- the place of a port among all: the ingress ports by number, then the egress ports by number
abbrev pub port_place_on : Side → ℕ → ℕ → ℕ
port_place_on Ingress ports number = number
port_place_on Egress ports number = ports + number

-- the place of a port on a fabric with so many ports on each side
abbrev pub port_place : ℕ → Port → ℕ
port_place ports port = port_place_on port.side ports port.number

-- the port is in range, and each other one has less load of the coflows, or as much and comes later
pub record IsFirstGreatest (flows : List Flow) (ports : ℕ) (coflows : List ℕ) (port : Port) : Type 0 where
  pub in_range : port.number < ports
  pub greatest : (other : Port) → other.number < ports →
      (load_of_all flows coflows other < load_of_all flows coflows port)
      ⊎ ((load_of_all flows coflows other ≡ load_of_all flows coflows port) ×
      (port_place ports port ≤ port_place ports other))

-- what the coflow pays at the places that are there already
abbrev pub spent : List Flow → List Entry → ℕ → ℕ
spent flows later coflow = sum_by (λ (e : Entry). e.y * load flows coflow e.port) later

-- what it has left; the law says that it never pays more than its budget, so the difference is exact
abbrev pub residual : List Flow → (ℕ → ℕ) → List Entry → ℕ → ℕ
residual flows weight later coflow = budget weight coflow - spent flows later coflow

-- where the front has no load: the greatest number takes the place, and nothing is paid
pub record IsPlacedIdle (coflows : List ℕ) (e : Entry) : Type 0 where
  pub greatest : (d : ℕ) → Contains coflows d → d ≤ e.coflow
  pub y_is : e.y ≡ 0

-- where the front has load: the coflow with the least ratio of residual to load takes the place, among equal ones the
-- greatest number, and y is its ratio rounded down
pub record IsPlacedBusy (flows : List Flow) (weight : ℕ → ℕ) (later : List Entry) (coflows : List ℕ) (e : Entry) : Type
    0 where
  pub has_load : 0 < load flows e.coflow e.port
  pub least : (d : ℕ) → Contains coflows d → 0 < load flows d e.port →
      (residual flows weight later e.coflow * load flows d e.port < residual flows weight later d * load flows e.coflow
      e.port)
      ⊎ ((residual flows weight later e.coflow * load flows d e.port ≡
      residual flows weight later d * load flows e.coflow e.port) × (d ≤ e.coflow))
  pub y_is : e.y ≡ residual flows weight later e.coflow / load flows e.coflow e.port

-- one step: the coflows are those not placed yet, the placed one among them, and `later` the places that are there
-- already
pub record IsPlaced (flows : List Flow) (weight : ℕ → ℕ) (ports : ℕ) (later : List Entry) (coflows : List ℕ)
    (e : Entry) : Type 0 where
  pub port : IsFirstGreatest flows ports coflows e.port
  pub idle : load_of_all flows coflows e.port ≡ 0 → IsPlacedIdle coflows e
  pub busy : 0 < load_of_all flows coflows e.port → IsPlacedBusy flows weight later coflows e

-- each entry is placed by the step above, over its front and the places after it
abbrev pub IsOrdered : List Flow → (ℕ → ℕ) → ℕ → List Entry → List Entry → Type 0
IsOrdered flows weight ports later [] = Unit {0}
IsOrdered flows weight ports later (e ∷ before) =
    IsPlaced flows weight ports later (front (e ∷ before)) e × IsOrdered flows weight ports (e ∷ later) before

-- the ordering certificate of the instance
pub record IsOrdering (i : Instance) (entries : List Entry) : Type 0 where
  pub certificate : IsCertificate i entries
  pub ordered : IsOrdered i.flows i.weight i.ports [] entries
