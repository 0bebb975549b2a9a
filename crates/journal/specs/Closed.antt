-- The runs that a journal closed, and what they make: the schedule, and what each wire was sent.
use Rattle.std.specs.Prelude.{◌≡◌, ℕ, ◌+◌, ◌-◌, ◌≤◌, ◌==◌, ◌&&◌, Bool, nat_le, nat_lt, if◌then◌else◌, List, [], ◌∷◌}
use Rattle.std.specs.Prelude.{◌++◌, All, AllPairs, map, replicate, count_by, length, min, sum_by, Option, Some, None}
use Rattle.std.specs.Prelude.{option_to_list}
use Rattle.std.specs.List.{filter, flat_map, range_with_len}
use Rattle.coflow_units.specs.declared.fabric.Flow.{Flow}
use Rattle.coflow_units.specs.Grants.{IsGrants, IsRunLength}
use Rattle.coflow_units.specs.Schedule.{IsClear}
use Rattle.journal.specs.declared.command.Command.TheVariants.{Open}
use Rattle.journal.specs.declared.command.Entry.{Entry}
use Rattle.journal.specs.declared.command.Reply.{Reply}
use Rattle.journal.specs.declared.command.Reply.TheVariants.{Opened, Closed, Skipped}
use Rattle.journal.specs.declared.opening.Opening.{Opening}
use Rattle.journal.specs.State.{owed, Run, slot_end, State}
use Rattle.journal.specs.Runs.{credit, grant_in}
use Rattle.journal.specs.Fold.{after, start, state_of}
use Rattle.journal.specs.Journal.{line_of}

-- a closing closes the open run, and no other reply does
abbrev pub closed_by : Reply → Option Run → List Run
closed_by (Closed slot) run = option_to_list run
closed_by reply run = []

-- the runs that these entries close, from this state on
abbrev pub closed_from : Opening → State → List Entry → List Run
closed_from o s [] = []
closed_from o s (e ∷ es) = closed_by e.reply s.run ++ closed_from o (after o s e.command e.reply) es

-- The closed runs of a journal, in order, each as it stood when it was closed: with its first slot, its number of
-- slots, its granted flows and its notes, which say what is credited to each flow.
abbrev pub closed_runs : Opening → List Entry → List Run
closed_runs o journal = closed_from o (start o) journal

-- a closed run has a slot, ended before this slot, grants flows that can be served together, and credits to none of
-- them more than its slots
pub record IsClosedRun (flows : List Flow) (next : ℕ) (r : Run) : Type 0 where
  pub first : 1 ≤ r.first
  pub some : 1 ≤ r.slots
  pub ends : r.first + r.slots ≤ next
  pub clear : IsClear flows r.granted
  pub credits : (f : ℕ) → credit flows r f ≤ r.slots

-- the run ended before the other one began
abbrev pub IsEarlier : Run → Run → Type 0
IsEarlier x y = x.first + x.slots ≤ y.first

-- closed runs are in order and ended before the next slot, and what was sent of each flow is what they credit to it
pub record AreClosed (flows : List Flow) (next : ℕ) (sent : ℕ → ℕ) (runs : List Run) : Type 0 where
  pub each : All (IsClosedRun flows next) runs
  pub apart : AllPairs IsEarlier runs
  pub sent_is : (f : ℕ) → sent f ≡ sum_by (λ r. credit flows r f) runs

-- the flow stands in the slot for the run: one unit of its credit in each slot, from the first slot of the run on
abbrev pub reaches : List Flow → Run → ℕ → ℕ → Bool
reaches flows r slot f = nat_le r.first slot && nat_lt slot (r.first + credit flows r f)

-- the granted flows of the run that stand in the slot
abbrev pub run_in : List Flow → ℕ → Run → List ℕ
run_in flows slot r = filter (reaches flows r slot) r.granted

-- the flows that stand in the slot for these runs
abbrev pub flows_in : List Flow → List Run → ℕ → List ℕ
flows_in flows runs slot = flat_map (run_in flows slot) runs

-- the slots of a run: in slot i of it, counted from 0, stands each granted flow whose credit is above i
abbrev pub slots_in : List Flow → Run → List (List ℕ)
slots_in flows r = map (λ i. filter (λ f. nat_lt i (credit flows r f)) r.granted) (range_with_len 0 r.slots)

-- the schedule of the closed runs: the slots from slot 1 on that came before the next slot, each with the flows that
-- stand in it
abbrev pub schedule_of : Opening → List Entry → List (List ℕ)
schedule_of o journal =
    map (flows_in o.table.flows (closed_runs o journal)) (range_with_len 1 ((state_of o journal).next - 1))

-- the slots that a reply adds to the schedule, in a state with this next slot and open run: those of the run that it
-- closes, or the empty ones that it lets pass
abbrev pub slots_added : List Flow → ℕ → Option Run → Reply → List (List ℕ)
slots_added flows next run (Closed slot) = flat_map (slots_in flows) (option_to_list run)
slots_added flows next run (Skipped slot) = replicate (slot - next) []
slots_added flows next run reply = []

-- so many units of the flow from the slot on, where there are any
abbrev pub sent_run : ℕ → ℕ → ℕ → List (ℕ × ℕ × ℕ)
sent_run slot flow units = if units == 0 then [] else (slot, flow, units) ∷ []

-- what the run sent for this grant
abbrev pub sent_by : List Flow → Run → Option ℕ → List (ℕ × ℕ × ℕ)
sent_by flows r None = []
sent_by flows r (Some f) = sent_run r.first f (credit flows r f)

-- what the run sent from the port: its first slot, the flow granted at that ingress and its credit
abbrev pub sent_at : List Flow → ℕ → Run → List (ℕ × ℕ × ℕ)
sent_at flows port r = sent_by flows r (grant_in flows r.granted port)

-- what the wire of an ingress port was sent: the runs that the closed runs sent from it, in order
abbrev pub wire_of : Opening → List Entry → ℕ → List (ℕ × ℕ × ℕ)
wire_of o journal port = flat_map (sent_at o.table.flows port) (closed_runs o journal)

-- the sent run has a unit of the flow in the slot
abbrev pub has_unit : ℕ → ℕ → ℕ × ℕ × ℕ → Bool
has_unit slot f x = (x.1 == f) && (nat_le x.0 slot && nat_lt slot (x.0 + x.2))

-- how often the wire has the pair of a slot and a flow
abbrev pub times_on : List (ℕ × ℕ × ℕ) → ℕ → ℕ → ℕ
times_on wire slot f = count_by (has_unit slot f) wire

-- how many units of the flow the wire has
abbrev pub units_on : List (ℕ × ℕ × ℕ) → ℕ → ℕ
units_on wire f = sum_by (λ (x : ℕ × ℕ × ℕ). if x.1 == f then x.2 else 0) wire

-- the second journal has the next slot, the units sent, the closed runs, the schedule and the wires of the first
pub record LeavesSlots (o : Opening) (before after : List Entry) : Type 0 where
  pub next : (state_of o after).next ≡ (state_of o before).next
  pub sent : (f : ℕ) → (state_of o after).sent f ≡ (state_of o before).sent f
  pub closed : closed_runs o after ≡ closed_runs o before
  pub schedule : schedule_of o after ≡ schedule_of o before
  pub wire : (port : ℕ) → wire_of o after port ≡ wire_of o before port

-- and the open run
pub record LeavesRuns (o : Opening) (before after : List Entry) : Type 0 where
  pub run : (state_of o after).run ≡ (state_of o before).run
  pub slots : LeavesSlots o before after

-- An entry of the journal opened the run: it begins with the next slot there, grants the flows of the line by what is
-- owed there, and is as long as was asked, as the slots that are left allow, and as its flows owe.
pub record IsOpenedIn (o : Opening) (journal : List Entry) (r : Run) : Type 0 where
  pub before : List Entry
  pub entry : Entry
  pub more : List Entry
  pub most : ℕ
  pub stands : journal ≡ before ++ entry ∷ more
  pub command : entry.command ≡ Open most
  pub reply : entry.reply ≡ Opened r.first r.slots (length r.granted)
  pub first : r.first ≡ (state_of o before).next
  pub grants : IsGrants o.table.flows (line_of o before) (owed o (state_of o before)) r.granted
  pub longest : IsRunLength (owed o (state_of o before)) r.granted (min most (slot_end - r.first)) r.slots
