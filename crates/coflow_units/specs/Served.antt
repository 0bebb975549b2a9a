-- The schedule that serves an order: in each slot the grants. So Sincronia serves the order of its coflows
-- (Agarwal, Rajakrishnan, Narayan, Agarwal, Shmoys and Vahdat, "Sincronia: near-optimal network design for coflows",
-- SIGCOMM 2018); here each slot carries one unit of a flow.
use Rattle.std.specs.Prelude.{◌≡◌, ℕ, ◌<◌, ◌-◌, List, [], length, take}
use Rattle.std.specs.List.{slice_index_or}
use Rattle.coflow_units.specs.declared.fabric.Flow.{Flow}
use Rattle.coflow_units.specs.Flows.{units_of}
use Rattle.coflow_units.specs.Grants.{IsGrants}
use Rattle.coflow_units.specs.Schedule.{times}

-- the units that the flow has left after the slots, or 0 where it stood in more
abbrev pub left_after : List Flow → List (List ℕ) → ℕ → ℕ
left_after flows slots f = units_of flows f - times slots f

-- each slot holds the grants for the units left after the slots before it, and some flow has units left then
pub record IsServedSoFar (flows : List Flow) (line : List ℕ) (slots : List (List ℕ)) : Type 0 where
  pub grants : (t : ℕ) → t < length slots →
      IsGrants flows line (left_after flows (take t slots)) (slice_index_or slots t [])
  pub owed : (t : ℕ) → t < length slots → (f : ℕ) × (f < length flows) × (0 < left_after flows (take t slots) f)

-- the served schedule of an order: it ends when no flow has units left
pub record IsServed (flows : List Flow) (line : List ℕ) (slots : List (List ℕ)) : Type 0 where
  pub so_far : IsServedSoFar flows line slots
  pub ended : (f : ℕ) → f < length flows → left_after flows slots f ≡ 0
