-- What wires have of a schedule.
use Rattle.std.specs.Prelude.{◌≡◌, true, ℕ, ◌-◌, ◌<◌, ◌≤◌, ◌==◌, ◌&&◌, nat_lt, if◌then◌else◌, List, [], ◌++◌, length, Option, Some, None}
use Rattle.std.specs.List.{slice_index_or}
use Rattle.coflow_units.specs.declared.fabric.Flow.{Flow}
use Rattle.coflow_units.specs.Flows.{ingress_of}
use Rattle.coflow_units.specs.Schedule.{holds}
use Rattle.journal.specs.Closed.{times_on}

-- how many units of the flow the schedule has in the slot at the ingress port: one where the flow begins there and stands
-- in the slot, and else none; slots count from 1
abbrev pub units_at : List Flow → List (List ℕ) → ℕ → ℕ → ℕ → ℕ
units_at flows slots port slot f =
    if nat_lt 0 slot && ((ingress_of flows f == port) && holds (slice_index_or slots (slot - 1) []) f) then 1 else 0

-- the sent runs are the units of the schedule at the ingress port, each once, and nothing else
abbrev pub AreAllUnits : List Flow → List (List ℕ) → ℕ → List (ℕ × ℕ × ℕ) → Type 0
AreAllUnits flows slots port sent = (slot f : ℕ) → times_on sent slot f ≡ units_at flows slots port slot f

-- the sent runs are units of the schedule at the ingress port, none twice, and nothing else
abbrev pub AreUnits : List Flow → List (List ℕ) → ℕ → List (ℕ × ℕ × ℕ) → Type 0
AreUnits flows slots port sent = (slot f : ℕ) → times_on sent slot f ≤ units_at flows slots port slot f

-- each flow of a slot of the first schedule stands in that slot of the second
abbrev pub IsPartOf : List (List ℕ) → List (List ℕ) → Type 0
IsPartOf part whole =
    (k f : ℕ) → holds (slice_index_or part k []) f ≡ true → holds (slice_index_or whole k []) f ≡ true

-- Of the schedule's units at the lesser ports, in the slots up to this one, none is missing among the sent runs. Of those
-- at the port one is missing in this slot.
abbrev pub StopsAt : List Flow → List (List ℕ) → ℕ → ℕ → ℕ → List (ℕ × ℕ × ℕ) → Type 0
StopsAt flows slots port last p sent =
    (p < port → (slot f : ℕ) → slot ≤ last → times_on sent slot f ≡ units_at flows slots p slot f)
    × (p ≡ port → (f : ℕ) × (units_at flows slots p last f ≡ 1) × (times_on sent last f ≡ 0))

-- where a wire tells its runs, it has those that it had, and then some of which this holds
abbrev pub HasMore : (List (ℕ × ℕ × ℕ) → Type 0) → Option (List (ℕ × ℕ × ℕ)) → Option (List (ℕ × ℕ × ℕ)) → Type 0
HasMore P None after = after ≡ None
HasMore P (Some before) after = (sent : List (ℕ × ℕ × ℕ)) × (after ≡ Some (before ++ sent)) × P sent

module _ {W : Type 0} (runs : W → Option (List (ℕ × ℕ × ℕ))) where
  -- so it is with the wire of each ingress port, and no further wire is touched
  pub record HaveMore (P : ℕ → List (ℕ × ℕ × ℕ) → Type 0) (ports : ℕ) (before after : List W) : Type 0 where
    pub as_many : length after ≡ length before
    pub each : (port : ℕ) (b a : W) → port < ports →
        HasMore (P port) (runs (slice_index_or before port b)) (runs (slice_index_or after port a))
    pub further : (i : ℕ) (w : W) → ports ≤ i → slice_index_or after i w ≡ slice_index_or before i w

module _ {W : Type 0} (faults : W → ℕ) where
  -- no wire of a port has fewer faults than before
  abbrev pub NoneFell : ℕ → List W → List W → Type 0
  NoneFell ports before after =
      (port : ℕ) (b a : W) → port < ports → faults (slice_index_or before port b) ≤ faults (slice_index_or after port a)
