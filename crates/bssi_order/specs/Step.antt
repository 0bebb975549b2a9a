-- One step of the order over a table: from the loads of the coflows that wait for a place, and their residuals.
use Rattle.std.specs.Prelude.{◌≡◌, ℕ, ◌-◌, ◌*◌, ◌/◌, ◌^◌, ◌<◌, ◌≤◌, ◌⊎◌, Bool, true, false, List, Contains, length}
use Rattle.std.specs.Prelude.{slice_index}
use Rattle.coflow_units.specs.declared.limits.TheConstants.{MAX_COFLOWS, MAX_UNITS}
use Rattle.coflow_units.specs.declared.fabric.Port.{Port}
use Rattle.coflow_units.specs.declared.fabric.Side.{Side}
use Rattle.coflow_units.specs.declared.plan.Place.{Place}
use Rattle.coflow_units.specs.Flows.{Instance, IsDistinct}
use Rattle.coflow_units.specs.Load.{load}
use Rattle.coflow_units.specs.Certificate.{Entry}
use Rattle.coflow_units.specs.Ordering.{port_place, residual}
use Rattle.port_load.specs.LoadTable.{LoadTable, is_present, load_at, total_at}

-- one residual and one mark for each coflow, numbers within their limits, and load only of coflows that wait
pub record IsReady (t : LoadTable) (residuals : List ℕ) (waiting : List Bool) : Type 0 where
  pub coflows_limit : t.coflows ≤ MAX_COFLOWS
  pub residuals_len : length residuals ≡ t.coflows
  pub waiting_len : length waiting ≡ t.coflows
  pub residuals_fit : (coflow : ℕ) → coflow < t.coflows → slice_index residuals coflow ≤ 2 ^ 72
  pub totals_fit : (port : Port) → port.number < t.ports → total_at t port ≤ MAX_UNITS
  pub loads_wait : (coflow : ℕ) (port : Port) → coflow < t.coflows → port.number < t.ports →
      is_present waiting coflow ≡ false → load_at t coflow port ≡ 0

-- the port is the first one with the greatest total
pub record IsGreatestPort (t : LoadTable) (port : Port) : Type 0 where
  pub in_range : port.number < t.ports
  pub greatest : (other : Port) → other.number < t.ports →
      (total_at t other < total_at t port) ⊎
      ((total_at t other ≡ total_at t port) × (port_place t.ports port ≤ port_place t.ports other))

-- the same among the ports of its side
pub record IsGreatestOn (t : LoadTable) (side : Side) (port : Port) : Type 0 where
  pub on_side : port.side ≡ side
  pub in_range : port.number < t.ports
  pub greatest : (other : Port) → other.side ≡ side → other.number < t.ports →
      (total_at t other < total_at t port) ⊎ ((total_at t other ≡ total_at t port) × (port.number ≤ other.number))

-- the coflow has load on the port, and its ratio of residual to load is the least there; among equal ones it has the
-- greatest number
pub record IsLeastRatio (t : LoadTable) (residuals : List ℕ) (port : Port) (coflow : ℕ) : Type 0 where
  pub coflow_in : coflow < t.coflows
  pub has_load : 0 < load_at t coflow port
  pub least : (other : ℕ) → other < t.coflows → 0 < load_at t other port →
      (slice_index residuals coflow * load_at t other port < slice_index residuals other * load_at t coflow port)
      ⊎ ((slice_index residuals coflow * load_at t other port ≡ slice_index residuals other * load_at t coflow port) ×
      (other ≤ coflow))

-- the coflow waits, and no waiting one has a greater number
pub record IsGreatestWaiting (waiting : List Bool) (coflow : ℕ) : Type 0 where
  pub waits : is_present waiting coflow ≡ true
  pub greatest : (other : ℕ) → is_present waiting other ≡ true → other ≤ coflow

-- the place that comes before those that are there: its port, its coflow, what that coflow pays and keeps, and the load
-- of the port
pub record IsChosen (t : LoadTable) (residuals : List ℕ) (waiting : List Bool) (x : Place) : Type 0 where
  pub port : IsGreatestPort t x.port
  pub waits : is_present waiting x.coflow ≡ true
  pub load : x.load ≡ total_at t x.port
  pub idle_coflow : total_at t x.port ≡ 0 → IsGreatestWaiting waiting x.coflow
  pub idle_y : total_at t x.port ≡ 0 → x.y ≡ 0
  pub busy_coflow : 0 < total_at t x.port → IsLeastRatio t residuals x.port x.coflow
  pub busy_y : 0 < total_at t x.port → x.y ≡ slice_index residuals x.coflow / load_at t x.coflow x.port
  pub rest : x.rest ≡ slice_index residuals x.coflow - x.y * load_at t x.coflow x.port

-- every coflow pays y for each unit of its load on the port
abbrev pub Pays : LoadTable → Port → ℕ → List ℕ → List ℕ → Type 0
Pays t port y old new = (coflow : ℕ) → coflow < t.coflows →
    slice_index new coflow ≡ slice_index old coflow - y * load_at t coflow port

-- where the instance stands after some places: `later` are the places that are there, and `left` the coflows that wait
pub record Stands (i : Instance) (later : List Entry) (left : List ℕ) (t : LoadTable) (residuals : List ℕ)
    (waiting : List Bool) : Type 0 where
  pub ports : i.ports ≡ t.ports
  pub distinct : IsDistinct left
  pub members : (coflow : ℕ) → Contains left coflow → (coflow < t.coflows) × (is_present waiting coflow ≡ true)
  pub all : (coflow : ℕ) → coflow < t.coflows → is_present waiting coflow ≡ true → Contains left coflow
  pub load : (coflow : ℕ) (port : Port) → Contains left coflow → port.number < t.ports →
      load_at t coflow port ≡ load i.flows coflow port
  pub residual : (coflow : ℕ) → Contains left coflow →
      slice_index residuals coflow ≡ residual i.flows i.weight later coflow
