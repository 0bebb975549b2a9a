-- Orders as lists of places from place 1 on, and the ordering certificate that they tell.
use Rattle.std.specs.Prelude.{◌≡◌, ℕ, ◌<◌, ◌≤◌, Bool, List, [], ◌∷◌, All, Contains, filter, length, map, reverse}
use Rattle.std.specs.Prelude.{slice_index}
use Rattle.std.specs.List.{range_with_len}
use Rattle.coflow_units.specs.declared.fabric.Flow.{Flow}
use Rattle.coflow_units.specs.declared.fabric.Port.{Port}
use Rattle.coflow_units.specs.declared.plan.Place.{Place}
use Rattle.coflow_units.specs.Flows.{Instance}
use Rattle.coflow_units.specs.Load.{load}
use Rattle.coflow_units.specs.Certificate.{Entry, entry_of, front_load, rest}
use Rattle.coflow_units.specs.Ordering.{IsOrdering}
use Rattle.port_load.specs.LoadTable.{LoadTable, is_present, load_at}

-- the numbers of the coflows that are marked, ascending
abbrev pub present_coflows : List Bool → List ℕ
present_coflows present = filter (is_present present) (range_with_len 0 (length present))

-- the instance has the coflows that are marked, the table's number of ports, and for these coflows the loads of the
-- table and the weights of the list
pub record IsOf (i : Instance) (t : LoadTable) (weights : List ℕ) (present : List Bool) : Type 0 where
  pub coflows : i.coflows ≡ present_coflows present
  pub ports : i.ports ≡ t.ports
  pub weight : (coflow : ℕ) → Contains i.coflows coflow → i.weight coflow ≡ slice_index weights coflow
  pub load : (coflow : ℕ) (port : Port) → Contains i.coflows coflow → port.number < i.ports →
      load_at t coflow port ≡ load i.flows coflow port

-- the entries that places from place 1 on tell, from the last place to the first
abbrev pub entries_of : List Place → List Entry
entries_of places = map entry_of (reverse places)

-- places, from the last to the first, tell the loads of their ports over their fronts
abbrev pub TellsFrontLoads : List Flow → List Place → Type 0
TellsFrontLoads flows [] = Unit {0}
TellsFrontLoads flows (x ∷ before) = (x.load ≡ front_load flows (map entry_of (x ∷ before))) ×
    TellsFrontLoads flows before

-- the places tell the ordering certificate of the instance; each tells what its coflow keeps of its budget, and the
-- load of its port over its front
pub record IsOrder (i : Instance) (places : List Place) : Type 0 where
  pub ordering : IsOrdering i (entries_of places)
  pub rest : All (λ (x : Place). x.rest ≡ rest i.flows i.weight (entries_of places) x.coflow) places
  pub load : TellsFrontLoads i.flows (reverse places)

-- what a `Bssi` is: for how many coflows it has room, and the places of its last run
pub record Orders : Type 0 where
  pub room : ℕ
  pub places : List Place

-- the lists that a run needs are as long as there is room, and no more places are told than there is room for
pub record HasRoom (room count residuals waiting : ℕ) : Type 0 where
  pub count_fits : count ≤ room
  pub residuals_len : residuals ≡ room
  pub waiting_len : waiting ≡ room
