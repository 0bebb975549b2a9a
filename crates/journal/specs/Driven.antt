-- One run that the driver, caller 0, opens and closes while others go on.
use Rattle.std.specs.Prelude.{◌≡◌, ℕ, ◌+◌, ◌<◌, ◌≤◌, ◌⊎◌, ◌==◌, ◌&&◌, Bool, true, false, not, nat_lt, if◌then◌else◌}
use Rattle.std.specs.Prelude.{List, [], ◌∷◌, ◌++◌, All, AllPairs, Contains, count_by, length, map, Option, Some, None}
use Rattle.std.specs.List.{filter, range_with_len}
use Rattle.coflow_units.specs.declared.fabric.Flow.{Flow}
use Rattle.coflow_units.specs.Flows.{ingress_of}
use Rattle.coflow_units.specs.Grants.{IsGrants}
use Rattle.journal.specs.declared.command.Command.{Command}
use Rattle.journal.specs.declared.command.Command.TheVariants.{Open, Short, Close}
use Rattle.journal.specs.declared.command.Entry.{Entry}
use Rattle.journal.specs.declared.command.Reply.{Reply}
use Rattle.journal.specs.declared.command.Reply.TheVariants.{Noted, Opened}
use Rattle.journal.specs.declared.opening.Opening.{Opening}
use Rattle.journal.specs.State.{has, owed, Run}
use Rattle.journal.specs.Runs.{credit, grant_in, granted}
use Rattle.journal.specs.Fold.{state_of}
use Rattle.journal.specs.Journal.{entry, line_of}
use Rattle.journal.specs.Entries.{is_driving}
use Rattle.journal.specs.Closed.{closed_runs, LeavesSlots, schedule_of, sent_run, wire_of}

-- an entry of another caller, which drives no run
abbrev pub is_other : Entry → Bool
is_other e = nat_lt 0 e.who && not (is_driving e.command)

-- the command notes the port
abbrev pub notes_port : ℕ → Command → Bool
notes_port port (Short p units) = p == port
notes_port port k = false

-- What a driven run is made of: the entries of others before its opening, the opening with what it was answered, the
-- entries between the opening and the closing, the reply to the closing,
-- and how many units were sent from each ingress port.
pub record Drive : Type 0 where
  pub earlier : List Entry
  pub most : ℕ
  pub first : ℕ
  pub slots : ℕ
  pub count : ℕ
  pub between : List Entry
  pub answer : Reply
  pub sent : ℕ → ℕ

-- the entries of the driver, in order
abbrev pub driver_entries : List Entry → List Entry
driver_entries entries = filter (λ (e : Entry). e.who == 0) entries

-- the opening and the closing
abbrev pub opening : Drive → Entry
opening d = entry 0 (Open d.most) (Opened d.first d.slots d.count)

abbrev pub closing : Drive → Entry
closing d = entry 0 Close d.answer

-- the journal in which the run is opened, and the one in which it is closed
abbrev pub opened_in : List Entry → Drive → List Entry
opened_in before d = before ++ d.earlier

abbrev pub closed_in : List Entry → Drive → List Entry
closed_in before d = opened_in before d ++ opening d ∷ [] ++ d.between

-- the flows that the run grants
abbrev pub driven : Opening → List Entry → Drive → List ℕ
driven o before d = granted o (state_of o (opened_in before d))

-- the units that were sent from the port of a flow
abbrev pub sent_from : List Flow → Drive → ℕ → ℕ
sent_from flows d f = d.sent (ingress_of flows f)

-- the driver notes what was sent from the port of a flow
abbrev pub noting : List Flow → Drive → ℕ → Reply → Entry
noting flows d f reply = entry 0 (Short (ingress_of flows f) (sent_from flows d f)) reply

-- how often the port of a flow is to be noted: once where fewer units were sent from it than the run has slots
abbrev pub notes_due : List Flow → Drive → ℕ → ℕ
notes_due flows d f = if nat_lt (sent_from flows d f) d.slots then 1 else 0

-- the driver noted the units that were sent from the port of a granted flow, fewer than the run has slots
abbrev pub IsShortOf : List Flow → List ℕ → Drive → Entry → Type 0
IsShortOf flows granted d e =
    (f : ℕ) × Contains granted f × (e.who ≡ 0) × (e.command ≡ Short (ingress_of flows f) (sent_from flows d f))
    × (sent_from flows d f < d.slots)

-- The driver noted the units that were sent from the port of a granted flow, fewer than the run has slots, and the
-- note was taken.
abbrev pub IsTakenNote : List Flow → List ℕ → Drive → Entry → Type 0
IsTakenNote flows granted d e =
    (f : ℕ) × Contains granted f × (e ≡ noting flows d f (Noted (sent_from flows d f)))
    × (sent_from flows d f < d.slots)

-- how often the entries note the port
abbrev pub times_noted : List Entry → ℕ → ℕ
times_noted entries port = count_by (λ (e : Entry). notes_port port e.command) entries

-- neither this port is noted nor one after it
abbrev pub NoneNotedFrom : List Entry → ℕ → Type 0
NoneNotedFrom entries first = (port : ℕ) → first ≤ port → times_noted entries port ≡ 0

-- the first of the two entries notes a lesser port than the second, where both are notes
abbrev pub IsNotedBefore : Entry → Entry → Type 0
IsNotedBefore e f = (p q units more : ℕ) → e.command ≡ Short p units → f.command ≡ Short q more → p < q

-- A run of the driver is under way: after entries of others the journal goes on by an Open that was answered Opened,
-- and then by notes of the driver among entries of others, at most one for each port, in the order of the ports.
pub record IsUnderWay (o : Opening) (before now : List Entry) (d : Drive) : Type 0 where
  pub goes_on : now ≡ closed_in before d
  pub earlier : All (λ e. is_other e ≡ true) d.earlier
  pub between : All (λ e. (is_other e ≡ true) ⊎ IsShortOf o.table.flows (driven o before d) d e) d.between
  pub once : (port : ℕ) → times_noted d.between port ≤ 1
  pub in_order : AllPairs IsNotedBefore d.between

-- no more units were sent from the port of a granted flow than the run has slots
abbrev pub IsWithinRun : Opening → List Entry → Drive → Type 0
IsWithinRun o before d = (f : ℕ) → Contains (driven o before d) f → sent_from o.table.flows d f ≤ d.slots

-- the port of each granted flow was noted as often as it is to be
abbrev pub IsNotedAsDue : Opening → List Entry → Drive → Type 0
IsNotedAsDue o before d =
    (f : ℕ) → Contains (driven o before d) f →
    times_noted d.between (ingress_of o.table.flows f) ≡ notes_due o.table.flows d f

-- The journal goes on by one run of the driver: it was under way, and then comes a Close and nothing more. From the
-- port of each granted flow at most a unit was sent for each slot of the run; where it was fewer the port was noted
-- once, and else not at all. The notes come in the order of the ports.
pub record IsDriven (o : Opening) (before after : List Entry) (d : Drive) : Type 0 where
  pub goes_on : after ≡ closed_in before d ++ closing d ∷ []
  pub under_way : IsUnderWay o before (closed_in before d) d
  pub within : IsWithinRun o before d
  pub noted : IsNotedAsDue o before d

-- from the port of each granted flow a unit was sent for each slot of the run
abbrev pub IsSentWhole : Opening → List Entry → Drive → Type 0
IsSentWhole o before d = (f : ℕ) → Contains (driven o before d) f → sent_from o.table.flows d f ≡ d.slots

-- the flows are the grants of a slot for the line and the units owed after the journal
abbrev pub AreGrantsAfter : Opening → List Entry → List ℕ → Type 0
AreGrantsAfter o journal granted = IsGrants o.table.flows (line_of o journal) (owed o (state_of o journal)) granted

-- What holds while a run is under way: the run is open with the grants of its opening, it began with the next slot, and
-- the next slot, the units sent, the closed runs, the schedule and the wires are as before.
pub record IsRunning (o : Opening) (before now : List Entry) (d : Drive) : Type 0 where
  pub grants : AreGrantsAfter o (opened_in before d) (driven o before d)
  pub count : d.count ≡ length (driven o before d)
  pub run_before : (state_of o before).run ≡ None
  pub first : d.first ≡ (state_of o before).next
  pub run : (r : Run) × ((state_of o now).run ≡ Some r) × (r.first ≡ d.first) × (r.slots ≡ d.slots)
      × (r.granted ≡ driven o before d)
  pub leaves : LeavesSlots o before now

-- the slots of the driven run: in slot i of it, counted from 0, each granted flow from whose port more than i units
-- were sent
abbrev pub driven_slots : List Flow → List ℕ → Drive → List (List ℕ)
driven_slots flows granted d =
    map (λ i. filter (λ f. nat_lt i (sent_from flows d f)) granted) (range_with_len 0 d.slots)

-- what the run sent from a port with this grant
abbrev pub driven_run : Drive → ℕ → Option ℕ → List (ℕ × ℕ × ℕ)
driven_run d port None = []
driven_run d port (Some f) = sent_run d.first f (d.sent port)

-- the run credits to each flow that it grants the units that were sent from the flow's port
abbrev pub CreditsAsSent : List Flow → Drive → Run → Type 0
CreditsAsSent flows d r = (f : ℕ) → Contains r.granted f → credit flows r f ≡ sent_from flows d f

-- What a driven run makes of the journal: it has the grants of its opening and begins with the next slot, the next slot
-- is then the first after it, no run is open before and after it, to each granted flow the units are credited that
-- were sent from its port, and the schedule and the wires go on by its slots and by what it sent.
pub record GoesOnByRun (o : Opening) (before after : List Entry) (d : Drive) : Type 0 where
  pub grants : AreGrantsAfter o (opened_in before d) (driven o before d)
  pub count : d.count ≡ length (driven o before d)
  pub run_before : (state_of o before).run ≡ None
  pub run_after : (state_of o after).run ≡ None
  pub first : d.first ≡ (state_of o before).next
  pub next : (state_of o after).next ≡ (state_of o before).next + d.slots
  pub sent : (f : ℕ) → (state_of o after).sent f
      ≡ (state_of o before).sent f + (if has (driven o before d) f then sent_from o.table.flows d f else 0)
  pub closed :
      (r : Run) × ((state_of o (closed_in before d)).run ≡ Some r)
      × (closed_runs o after ≡ closed_runs o before ++ r ∷ []) × (r.first ≡ d.first) × (r.slots ≡ d.slots)
      × (r.granted ≡ driven o before d) × CreditsAsSent o.table.flows d r
  pub schedule : schedule_of o after ≡ schedule_of o before ++ driven_slots o.table.flows (driven o before d) d
  pub wire : (port : ℕ) → wire_of o after port
      ≡ wire_of o before port ++ driven_run d port (grant_in o.table.flows (driven o before d) port)
