-- Schedules that keep classes and leave no port idle that could serve. Which flow of a class is served first is free.
use Rattle.std.specs.Prelude.{ℕ, ◌<◌, ◌≤◌, ◌⊎◌, List, [], Contains, length, take}
use Rattle.std.specs.List.{slice_index_or}
use Rattle.coflow_units.specs.declared.fabric.Flow.{Flow}
use Rattle.coflow_units.specs.Flows.{SharesPort, coflow_of, units_of}
use Rattle.coflow_units.specs.Schedule.{times}

-- the slot holds the flow, or a flow of a coflow of its class or an earlier one that has a port in common with it
abbrev pub IsServedOrWaitsByClass : List Flow → (ℕ → ℕ) → List ℕ → ℕ → Type 0
IsServedOrWaitsByClass flows class slot f =
    Contains slot f
    ⊎ ((g : ℕ) × Contains slot g × SharesPort flows g f ×
    (class (coflow_of flows g) ≤ class (coflow_of flows f)))

-- in each slot, each flow that stood in fewer slots than it has units is served, or waits for a coflow of its class or an
-- earlier one
abbrev pub IsClassPatient : List Flow → (ℕ → ℕ) → List (List ℕ) → Type 0
IsClassPatient flows class slots =
    (t f : ℕ) → t < length slots → f < length flows → times (take t slots) f < units_of flows f →
    IsServedOrWaitsByClass flows class (slice_index_or slots t []) f
