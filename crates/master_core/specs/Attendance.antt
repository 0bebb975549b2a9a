-- Which coflows joined and which are present, as lists.
use Rattle.std.specs.Prelude.{◌≡◌, ℕ, ◌<◌, ◌≤◌, Bool, true, false, List, All, length}
use Rattle.std.specs.List.{slice_index_or}
use Rattle.coflow_units.specs.Flows.{IsDistinct}
use Rattle.journal.specs.State.{has}

-- the coflows that joined, in joining order, and a mark for each coflow that is present
pub record Attendance : Type 0 where
  pub joined : List ℕ
  pub present : List Bool

-- the number has a mark
abbrev pub marked : List Bool → ℕ → Bool
marked marks number = slice_index_or marks number false

-- each coflow that joined stands once and is marked as seen, there is room for all coflows, and only such ones are
-- present
pub record IsAttendance (joined : List ℕ) (seen present : List Bool) (room : ℕ) : Type 0 where
  pub has_room : length present ≤ room
  pub seen_len : length seen ≡ length present
  pub seen_is : (coflow : ℕ) → marked seen coflow ≡ has joined coflow
  pub there : (coflow : ℕ) → marked present coflow ≡ true → has joined coflow ≡ true
  pub once : IsDistinct joined
  pub coflow : All (λ c. c < length present) joined
