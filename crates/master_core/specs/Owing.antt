-- Which flows of present coflows owe units.
use Rattle.std.specs.Prelude.{◌≡◌, ℕ, ◌<◌, ◌&&◌, Bool, false, nat_lt, List, slice_index}
use Rattle.coflow_units.specs.declared.fabric.Flow.{Flow}
use Rattle.coflow_units.specs.Flows.{coflow_of}
use Rattle.master_core.specs.Attendance.{marked}

-- the flow is of a coflow that is marked as present, and owes units
abbrev pub is_owing : List Flow → List Bool → List ℕ → ℕ → Bool
is_owing flows present owed f = marked present (coflow_of flows f) && nat_lt 0 (slice_index owed f)

-- none of the first n flows is such a one
abbrev pub IsNoneOwing : List Flow → List Bool → List ℕ → ℕ → Type 0
IsNoneOwing flows present owed n = (f : ℕ) → f < n → is_owing flows present owed f ≡ false
