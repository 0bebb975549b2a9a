-- What holds in the state of every legal journal whose commands are in range.
use Rattle.std.specs.Prelude.{◌≡◌, ℕ, ◌+◌, ◌-◌, ◌≤◌, true, List, All, Contains, Option, Some, None, unwrap_or}
use Rattle.coflow_units.specs.declared.fabric.Flow.{Flow}
use Rattle.coflow_units.specs.Flows.{units_of}
use Rattle.coflow_units.specs.Schedule.{IsClear}
use Rattle.journal.specs.declared.command.Entry.{Entry}
use Rattle.journal.specs.declared.opening.Opening.{Opening}
use Rattle.journal.specs.State.{Run, slot_end, State}
use Rattle.journal.specs.Runs.{note_in}
use Rattle.journal.specs.Answer.{in_range}

-- An open run begins with the next slot, has a slot and ends in time; its flows can be served together, and each owes a
-- unit for each slot; no note is above its length.
pub record IsOpenRun (flows : List Flow) (sent : ℕ → ℕ) (next : ℕ) (r : Run) : Type 0 where
  pub first : r.first ≡ next
  pub some : 1 ≤ r.slots
  pub ends : r.first + r.slots ≤ slot_end
  pub clear : IsClear flows r.granted
  pub owed : (f : ℕ) → Contains r.granted f → r.slots ≤ units_of flows f - sent f
  pub notes : (port : ℕ) → unwrap_or (note_in r.notes port) r.slots ≤ r.slots

abbrev pub OnRun : Option Run → (Run → Type 0) → Type 0
OnRun None P = Unit {0}
OnRun (Some r) P = P r

-- no flow is sent more units than it has, the next slot is in range, and so is the open run
pub record IsSound (flows : List Flow) (sent : ℕ → ℕ) (next : ℕ) (run : Option Run) : Type 0 where
  pub within : (f : ℕ) → sent f ≤ units_of flows f
  pub next_some : 1 ≤ next
  pub next_ends : next ≤ slot_end
  pub open_run : OnRun run (IsOpenRun flows sent next)

abbrev pub SoundState : Opening → State → Type 0
SoundState o s = IsSound o.table.flows s.sent s.next s.run

-- the commands of the journal are in range
abbrev pub InRange : Opening → List Entry → Type 0
InRange o journal = All (λ (e : Entry). in_range o e.command ≡ true) journal
