-- Released certificates beside a table of loads, a list of weights and a list of arrivals. As in all definitions on
-- certificates, the places stand from the last to the first.
use Rattle.std.specs.Prelude.{◌≡◌, ℕ, ◌+◌, ◌<◌, ◌≤◌, List, All, Contains, None, Option, Some, min}
use Rattle.std.specs.Prelude.{slice_index}
use Rattle.std.specs.List.{range_with_len}
use Rattle.coflow_units.specs.declared.fabric.Flow.{Flow}
use Rattle.coflow_units.specs.declared.fabric.Port.{Port}
use Rattle.coflow_units.specs.Flows.{Instance}
use Rattle.coflow_units.specs.Load.{load}
use Rattle.coflow_units.specs.Certificate.{Entry, budget, used}
use Rattle.port_load.specs.LoadTable.{LoadTable, load_at}
use Rattle.dual_cert.specs.declared.cert.Charge.{Charge}
use Rattle.dual_cert.specs.TableCertificate.{HasLoadsOf, HasWeightsOf}
use Rattle.release_bound.specs.declared.place.ReleasePlace.{ReleasePlace}
use Rattle.release_bound.specs.Release.{IsReleasedFeasible, entries_of}

-- the instance has all coflows of the table, by number, with the table's loads and the weights of the list; and these
-- are the arrivals of that list
pub record IsOfTable (i : Instance) (arrival : ℕ → ℕ) (t : LoadTable) (weights arrivals : List ℕ) : Type 0 where
  pub coflows : i.coflows ≡ range_with_len 0 t.coflows
  pub ports : i.ports ≡ t.ports
  pub weight : (coflow : ℕ) → coflow < t.coflows → i.weight coflow ≡ slice_index weights coflow
  pub arrives : (coflow : ℕ) → coflow < t.coflows → arrival coflow ≡ slice_index arrivals coflow
  pub load : (coflow : ℕ) (port : Port) → coflow < t.coflows → port.number < t.ports →
      load_at t coflow port ≡ load i.flows coflow port

-- the arrivals are those of the list, for each coflow of the entries
abbrev pub HasArrivalsOf : (ℕ → ℕ) → List ℕ → List Entry → Type 0
HasArrivalsOf arrival arrivals entries = HasWeightsOf arrival arrivals entries

-- the places are feasible for some flows with the loads of the table and the weights of the list
pub record StaysInReleasedBudget (t : LoadTable) (weights : List ℕ) (places : List ReleasePlace) : Type 0 where
  pub flows : List Flow
  pub weight : ℕ → ℕ
  pub has_loads : HasLoadsOf flows t (entries_of places)
  pub has_weights : HasWeightsOf weight weights (entries_of places)
  pub feasible : IsReleasedFeasible flows weight places

-- what the place charges for load
abbrev pub charge_of : ReleasePlace → Charge
charge_of r = record { coflow = r.coflow; port = r.port; y = r.y }

-- the lesser of a number that may be there and another one
abbrev pub lesser_of : Option ℕ → ℕ → ℕ
lesser_of None n = n
lesser_of (Some m) n = min m n

-- what the coflow of the place uses and keeps for its earliest end is within its budget
abbrev pub StaysAt : List Flow → (ℕ → ℕ) → List ReleasePlace → ReleasePlace → Type 0
StaysAt flows weight places r = used flows (entries_of places) r.coflow + r.z ≤ budget weight r.coflow

-- at the place of this coflow it is not, and at that of each smaller one it is
pub record IsLeastReleasedInfeasible (flows : List Flow) (weight : ℕ → ℕ) (places : List ReleasePlace) (coflow : ℕ) :
    Type 0 where
  pub place : ReleasePlace
  pub stands : Contains places place
  pub coflow_is : place.coflow ≡ coflow
  pub above : budget weight coflow < used flows (entries_of places) coflow + place.z
  pub least : All (λ (r : ReleasePlace). r.coflow < coflow → StaysAt flows weight places r) places
