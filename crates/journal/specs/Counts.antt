-- What is counted in a journal.
use Rattle.std.specs.Prelude.{◌≡◌, ℕ, ◌+◌, ◌*◌, ◌<◌, ◌≤◌, ◌==◌, Bool, true, false, nat_lt, max, Contains, List, [], ◌∷◌, ◌++◌}
use Rattle.std.specs.Prelude.{count_by, length, sum_by}
use Rattle.std.specs.List.{flat_map, range_with_len}
use Rattle.journal.specs.declared.command.Command.{Command}
use Rattle.journal.specs.declared.command.Command.TheVariants.{Short, Close, Skip}
use Rattle.journal.specs.declared.command.Entry.{Entry}
use Rattle.journal.specs.declared.command.Reply.{Reply}
use Rattle.journal.specs.declared.command.Reply.TheVariants.{Closed, Opened, Skipped, Version}
use Rattle.journal.specs.declared.opening.Opening.{Opening}
use Rattle.journal.specs.State.{Run}
use Rattle.journal.specs.Fold.{state_of}
use Rattle.journal.specs.Journal.{version_of}

-- the command may be asked past the limit of the journal: Short or Close
abbrev pub is_ending : Command → Bool
is_ending (Short port units) = true
is_ending Close = true
is_ending k = false

-- how many of the entries ask Short or Close
abbrev pub endings : List Entry → ℕ
endings journal = count_by (λ (e : Entry). is_ending e.command) journal

-- the command notes units
abbrev pub is_noting : Command → Bool
is_noting (Short port units) = true
is_noting k = false

-- the reply closes a run
abbrev pub is_closing : Reply → Bool
is_closing (Closed slot) = true
is_closing reply = false

-- how many runs the entries close
abbrev pub closings : List Entry → ℕ
closings journal = count_by (λ (e : Entry). is_closing e.reply) journal

-- how many units were sent of all flows together
abbrev pub units_sent : Opening → List Entry → ℕ
units_sent o journal = sum_by (λ f. (state_of o journal).sent f) (range_with_len 0 (length o.table.flows))

-- the command skips slots
abbrev pub is_skipping : Command → Bool
is_skipping (Skip to) = true
is_skipping k = false

-- the run grants a flow, and nothing of it is noted
abbrev pub IsWhole : Run → Type 0
IsWhole r = ((f : ℕ) × Contains r.granted f) × (r.notes ≡ [])

-- the run as a number of equal slots
abbrev pub run_line : Run → ℕ × List ℕ
run_line r = (r.slots, r.granted)

-- something was noted in the run
abbrev pub is_noted : Run → Bool
is_noted r = nat_lt 0 (length r.notes)

-- the units that the runs granted: one of each granted flow in each slot
abbrev pub units_granted : List Run → ℕ
units_granted runs = sum_by (λ (r : Run). r.slots * length r.granted) runs

-- the slots of the runs together
abbrev pub slots_together : List Run → ℕ
slots_together runs = sum_by (λ (r : Run). r.slots) runs

-- the slot is one of the run's
abbrev pub IsSlotOf : ℕ → Run → Type 0
IsSlotOf slot r = (r.first ≤ slot) × (slot < r.first + r.slots)

-- the slot that a skip went to, and slot 1 for any other reply
abbrev pub skipped_to : Reply → ℕ
skipped_to (Skipped slot) = slot
skipped_to reply = 1

-- the furthest slot that a skip went to; slot 1 where there was none
abbrev pub furthest_skip : List Entry → ℕ
furthest_skip [] = 1
furthest_skip (e ∷ es) = max (skipped_to e.reply) (furthest_skip es)

-- what a reply tells of a run that it opens: its first slot, its number of slots, and how many flows it grants
abbrev pub opened_by : Reply → List (ℕ × ℕ × ℕ)
opened_by (Opened first slots count) = (first, slots, count) ∷ []
opened_by reply = []

-- what the entries tell of the runs that they open, in order
abbrev pub openings : List Entry → List (ℕ × ℕ × ℕ)
openings journal = flat_map (λ (e : Entry). opened_by e.reply) journal

-- what the opening of a run tells
abbrev pub opening_of : Run → ℕ × ℕ × ℕ
opening_of r = (r.first, r.slots, length r.granted)
