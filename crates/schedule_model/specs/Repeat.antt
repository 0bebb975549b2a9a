-- Port numbers that two flows of one slot use.
use Rattle.std.specs.Prelude.{◌≡◌, ◌≢◌, ◌↔◌, ◌<◌, ◌⊎◌, ℕ, Bool, false, IsTrue, List, Contains, length}
use Rattle.std.specs.List.{slice_index_or}
use Rattle.coflow_units.specs.declared.fabric.Flow.{Flow}
use Rattle.coflow_units.specs.declared.fabric.Side.{Side}
use Rattle.coflow_units.specs.Flows.{end_at, flow_at}
use Rattle.run_list.specs.Runs.{without}

-- the number of the port that the flow uses on the side
abbrev pub end_number : List Flow → Side → ℕ → ℕ
end_number flows side f = end_at side (flow_at flows f)

-- a flow of the list uses the port of this number on the side
abbrev pub Uses : List Flow → Side → List ℕ → ℕ → Type 0
Uses flows side slot number = (f : ℕ) × Contains slot f × (end_number flows side f ≡ number)

-- two flows of the list use the port of this number on the side
pub record Repeats (flows : List Flow) (side : Side) (slot : List ℕ) (number : ℕ) : Type 0 where
  pub one : ℕ
  pub other : ℕ
  pub apart : one ≢ other
  pub has_one : Contains slot one
  pub has_other : Contains slot other
  pub one_uses : end_number flows side one ≡ number
  pub other_uses : end_number flows side other ≡ number

-- the table has a mark at each port that a flow of the list uses on the side, and nowhere else
abbrev pub Marks : List Flow → Side → List ℕ → List Bool → Type 0
Marks flows side slot used =
    (p : ℕ) → p < length used → IsTrue (slice_index_or used p false) ↔ Uses flows side slot p

-- a flow of the list uses the port of this number, which has a mark or which another flow of the list uses too
abbrev pub IsTaken : List Flow → Side → List Bool → List ℕ → ℕ → Type 0
IsTaken flows side used slot number =
    (IsTrue (slice_index_or used number false) × Uses flows side slot number) ⊎ Repeats flows side slot number

-- the slot differs from the one before it by the flows that left and by the new ones, and the table has the ports of
-- that one, of which none is used twice
pub record Follows (flows : List Flow) (side : Side) (before slot left new : List ℕ) (used : List Bool) : Type 0 where
  pub left_is : left ≡ without before slot
  pub new_is : new ≡ without slot before
  pub marks : Marks flows side before used
  pub once : (p : ℕ) → Repeats flows side before p → ⊥
