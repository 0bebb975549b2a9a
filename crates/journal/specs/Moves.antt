-- What the entries that move a run do, kind by kind.
use Rattle.std.specs.Prelude.{◌≡◌, ℕ, ◌+◌, ◌-◌, ◌≤◌, List, [], ◌∷◌, ◌++◌, replicate, Some, None}
use Rattle.journal.specs.declared.command.Entry.{Entry}
use Rattle.journal.specs.declared.opening.Opening.{Opening}
use Rattle.journal.specs.State.{Run}
use Rattle.journal.specs.Runs.{credit, granted}
use Rattle.journal.specs.Fold.{state_of}
use Rattle.journal.specs.Closed.{closed_runs, LeavesSlots, schedule_of, sent_at, slots_in, wire_of}

-- where no run is open, one is opened that begins with the next slot, with the grants there and no notes
pub record OpensRun (o : Opening) (before after : List Entry) (r : Run) : Type 0 where
  pub run_before : (state_of o before).run ≡ None
  pub run_after : (state_of o after).run ≡ Some r
  pub first : r.first ≡ (state_of o before).next
  pub grants : r.granted ≡ granted o (state_of o before)
  pub no_notes : r.notes ≡ []
  pub leaves : LeavesSlots o before after

-- the open run gets a note of so many units at the port
pub record NotesRun (o : Opening) (before after : List Entry) (r : Run) (port units : ℕ) : Type 0 where
  pub run_before : (state_of o before).run ≡ Some r
  pub run_after : (state_of o after).run ≡ Some (record r { notes = (port, units) ∷ r.notes })
  pub leaves : LeavesSlots o before after

-- the open run is closed: its credits are sent, the next slot is the first after it, and the schedule and the wires go
-- on by it
pub record ClosesRun (o : Opening) (before after : List Entry) (r : Run) : Type 0 where
  pub run_before : (state_of o before).run ≡ Some r
  pub run_after : (state_of o after).run ≡ None
  pub first : r.first ≡ (state_of o before).next
  pub next : (state_of o after).next ≡ (state_of o before).next + r.slots
  pub sent : (f : ℕ) → (state_of o after).sent f ≡ (state_of o before).sent f + credit o.table.flows r f
  pub closed : closed_runs o after ≡ closed_runs o before ++ r ∷ []
  pub schedule : schedule_of o after ≡ schedule_of o before ++ slots_in o.table.flows r
  pub wire : (port : ℕ) → wire_of o after port ≡ wire_of o before port ++ sent_at o.table.flows port r

-- where no run is open, slots pass up to the one before this slot, and stand empty in the schedule
pub record SkipsSlots (o : Opening) (before after : List Entry) (to : ℕ) : Type 0 where
  pub run_before : (state_of o before).run ≡ None
  pub run_after : (state_of o after).run ≡ None
  pub later : (state_of o before).next ≤ to
  pub next : (state_of o after).next ≡ to
  pub sent : (f : ℕ) → (state_of o after).sent f ≡ (state_of o before).sent f
  pub closed : closed_runs o after ≡ closed_runs o before
  pub schedule : schedule_of o after ≡ schedule_of o before ++ replicate (to - (state_of o before).next) []
  pub wire : (port : ℕ) → wire_of o after port ≡ wire_of o before port
