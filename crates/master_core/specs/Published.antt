-- The newest order and its version, and the instance that an order is made for.
use Rattle.std.specs.Prelude.{◌≡◌, ℕ, ◌<◌, ◌≤◌, Bool, List, [], ◌∷◌, All, Contains, length, map, slice_index}
use Rattle.coflow_units.specs.declared.limits.TheConstants.{MAX_COFLOWS}
use Rattle.coflow_units.specs.declared.fabric.Flow.{Flow}
use Rattle.coflow_units.specs.declared.fabric.Port.{Port}
use Rattle.coflow_units.specs.declared.plan.Place.{Place}
use Rattle.coflow_units.specs.Flows.{Instance, IsDistinct, with_units}
use Rattle.coflow_units.specs.Load.{load}
use Rattle.bssi_order.specs.Order.{IsOrder, present_coflows}
use Rattle.journal.specs.Line.{rank_in}

-- the newest version, its places from place 1 on, and for how many coflows and ports there is room
pub record Published : Type 0 where
  pub version : ℕ
  pub places : List Place
  pub coflows : ℕ
  pub ports : ℕ

-- the coflows of the places, from place 1 on
abbrev pub ranked : List Place → List ℕ
ranked places = map (λ (x : Place). x.coflow) places

-- the last instance of a list that is not empty
abbrev pub last_of : Instance → List Instance → Instance
last_of i [] = i
last_of i (j ∷ js) = last_of j js

-- the places are those of the last publishing; before the first one there are none
abbrev pub TellsPlaces : List Instance → List Place → Type 0
TellsPlaces [] places = places ≡ []
TellsPlaces (i ∷ is) places = IsOrder (last_of i is) places

-- no coflow has two places, the places are of coflows that there is room for, and each coflow has its place in the
-- table of ranks
pub record IsPublished (places : List Place) (ranks : List ℕ) (coflows ports room load_coflows load_ports : ℕ) : Type 0
  where
    pub few_coflows : coflows ≤ MAX_COFLOWS
    pub room_is : room ≡ coflows
    pub load_coflows_are : load_coflows ≡ coflows
    pub load_ports_are : load_ports ≡ ports
    pub ranks_len : length ranks ≡ coflows
    pub places_len : length places ≤ coflows
    pub once : IsDistinct (ranked places)
    pub coflow : All (λ (x : Place). x.coflow < coflows) places
    pub rank : (coflow : ℕ) → coflow < coflows → slice_index ranks coflow ≡ rank_in (ranked places) coflow

-- the instance has the marked coflows with their weights, and their loads are those of the units that are left
pub record IsLeft (i : Instance) (flows : List Flow) (left weights : List ℕ) (present : List Bool) (ports : ℕ) : Type 0
  where
    pub coflows_are : i.coflows ≡ present_coflows present
    pub ports_are : i.ports ≡ ports
    pub weight : (coflow : ℕ) → Contains i.coflows coflow → i.weight coflow ≡ slice_index weights coflow
    pub load : (coflow : ℕ) (port : Port) → Contains i.coflows coflow →
        load (with_units (λ f. slice_index left f) flows) coflow port ≡ load i.flows coflow port
