-- A line with its room, and which line it is.
use Rattle.std.specs.Prelude.{ℕ, ◌==◌, ◌&&◌, ◌++◌, Bool, List}
use Rattle.std.specs.List.{filter}
use Rattle.master_core.specs.Attendance.{Attendance, marked}
use Rattle.master_core.specs.Published.{Published, ranked}
use Rattle.journal.specs.Line.{rank_in}

-- how many coflows there is room for, and those of the line, the first first
pub record Waiting : Type 0 where
  pub room : ℕ
  pub coflows : List ℕ

-- the coflow is marked as present, and has no place in the order
abbrev pub waits : List ℕ → List Bool → ℕ → Bool
waits order present coflow = (rank_in order coflow == 0) && marked present coflow

-- first the coflows of the newest order, then the others by joining; only those that are present
abbrev pub line_of : Attendance → Published → List ℕ
line_of roster orders = filter (marked roster.present) (ranked orders.places) ++
    filter (waits (ranked orders.places) roster.present) roster.joined
