-- Runs: what an opening grants, for how many slots, and what a closing credits.
use Rattle.std.specs.Prelude.{ℕ, ◌-◌, ◌==◌, min, if◌then◌else◌, List, [], ◌∷◌, Option, Some, None, unwrap_or}
use Rattle.coflow_units.specs.declared.fabric.Flow.{Flow}
use Rattle.coflow_units.specs.Flows.{ingress_of}
use Rattle.journal.specs.declared.opening.Opening.{Opening}
use Rattle.journal.specs.Chosen.{the_grants}
use Rattle.journal.specs.State.{has, owed, Run, slot_end, State}
use Rattle.journal.specs.Line.{line}

-- the flows that a run opened now would grant
abbrev pub granted : Opening → State → List ℕ
granted o s = the_grants o.table.flows (line s) (owed o s)

-- the least of a number and the numbers of the flows
abbrev pub least_of : (ℕ → ℕ) → List ℕ → ℕ → ℕ
least_of number [] n = n
least_of number (f ∷ fs) n = least_of number fs (min n (number f))

-- how many slots a run of at most so many would have
abbrev pub slots_for : Opening → State → ℕ → ℕ
slots_for o s most = least_of (owed o s) (granted o s) (min most (slot_end - s.next))

-- the granted flow at an ingress port
abbrev pub grant_in : List Flow → List ℕ → ℕ → Option ℕ
grant_in flows [] port = None
grant_in flows (f ∷ fs) port = if ingress_of flows f == port then Some f else grant_in flows fs port

-- what was noted last for the port
abbrev pub note_in : List (ℕ × ℕ) → ℕ → Option ℕ
note_in [] port = None
note_in (n ∷ ns) port = if n.0 == port then Some n.1 else note_in ns port

-- the units that the run credits to a flow when it is closed: the noted number, or one for each slot
abbrev pub credit : List Flow → Run → ℕ → ℕ
credit flows run f = if has run.granted f then unwrap_or (note_in run.notes (ingress_of flows f)) run.slots else 0

-- the granted flow at an ingress port, where a run is open
abbrev pub flow_at : List Flow → Option Run → ℕ → Option ℕ
flow_at flows None port = None
flow_at flows (Some r) port = grant_in flows r.granted port

-- the flows that the open run grants; none where no run is open
abbrev pub flows_granted : Option Run → List ℕ
flows_granted None = []
flows_granted (Some r) = r.granted

-- how many slots the open run has, where one is open
abbrev pub slots_of : Option Run → Option ℕ
slots_of None = None
slots_of (Some r) = Some r.slots

-- what was noted last for an ingress port, where a run is open
abbrev pub noted_at : Option Run → ℕ → Option ℕ
noted_at None port = None
noted_at (Some r) port = note_in r.notes port
