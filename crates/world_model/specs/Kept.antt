-- What every step of the world keeps.
use Rattle.std.specs.Prelude.{◌≡◌, ℕ, ◌+◌, ◌<◌, ◌≤◌, ◌⊎◌, if◌then◌else◌, List, All, AllPairs, length, Option, Some}
use Rattle.std.specs.Prelude.{None}
use Rattle.std.specs.List.{slice_index_or}
use Rattle.coflow_units.specs.declared.fabric.Flow.{Flow}
use Rattle.coflow_units.specs.Flows.{ingress_of}
use Rattle.coflow_units.specs.PortWord.{PortStage}
use Rattle.coflow_units.specs.PortWord.PortStage.{unposted, granted, drawn, reported, taken_back}
use Rattle.journal.specs.State.{Run, has}
use Rattle.journal.specs.Runs.{grant_in, note_in}
use Rattle.journal.specs.Fold.{state_of}
use Rattle.world_model.specs.declared.port.PortState.{PortState}
use Rattle.world_model.specs.declared.event.SentRun.{SentRun}
use Rattle.world_model.specs.Port.{PortFacts, idle_port}
use Rattle.world_model.specs.Sent.{sent_for, sent_of}
use Rattle.world_model.specs.World.{WorldFacts}

-- two sent runs of one flow have no slot in common
abbrev pub IsApart : SentRun → SentRun → Type 0
IsApart x y = x.flow ≡ y.flow → (x.slot + x.units ≤ y.slot) ⊎ (y.slot + y.units ≤ x.slot)

-- The sent run ended before the open run, or begins with it, is no longer than it, and is of the grant of its port.
-- Where no run is open, it ended before the next slot.
abbrev pub InTime : List Flow → ℕ → Option Run → SentRun → Type 0
InTime flows next None x = x.slot + x.units ≤ next
InTime flows next (Some r) x = (x.slot + x.units ≤ r.first) ⊎
    ((x.slot ≡ r.first) × (x.units ≤ r.slots) × (grant_in flows r.granted x.port ≡ Some x.flow))

-- a sent run has a first slot and a unit, left from the ingress of its flow, and is in time
pub record IsSentRun (flows : List Flow) (next : ℕ) (run : Option Run) (x : SentRun) : Type 0 where
  pub slot_some : 1 ≤ x.slot
  pub units_some : 1 ≤ x.units
  pub at_ingress : x.port ≡ ingress_of flows x.flow
  pub in_time : InTime flows next run x

-- the units of the flow that were sent in the open run
abbrev pub sent_now : List Flow → Option Run → List SentRun → ℕ → ℕ
sent_now flows None sent f = 0
sent_now flows (Some r) sent f = if has r.granted f then sent_for sent (ingress_of flows f) r.first else 0

-- the last post waits for nobody
abbrev pub Rests : PortStage → Type 0
Rests granted = ⊥
Rests (drawn agent) = ⊥
Rests stage = Unit {0}

-- the port was not posted in the run: its last post rests and is of an earlier run, and nothing is settled and nothing
-- sent
abbrev pub IsNotPosted : Run → ℕ → PortFacts → Type 0
IsNotPosted r sent_here x = Rests x.stage × (x.slot < r.first) × (x.settled ≡ None) × (sent_here ≡ 0)

-- the count, what is settled, and what was sent, by the stage of a post in a run of so many slots
abbrev pub ByStage : ℕ → ℕ → ℕ → Option ℕ → PortStage → Type 0
ByStage slots sent_here count settled unposted = ⊥
ByStage slots sent_here count settled granted = (count ≡ slots) × (settled ≡ None) × (sent_here ≡ 0)
ByStage slots sent_here count settled (drawn agent) = (count ≡ slots) × (settled ≡ None) × (sent_here ≤ slots)
ByStage slots sent_here count settled (reported agent n) = (n ≡ sent_here) × (count ≡ sent_here) × (sent_here ≤ slots) ×
    ((settled ≡ None) ⊎ (settled ≡ Some sent_here))
ByStage slots sent_here count settled taken_back = (settled ≡ Some 0) × (sent_here ≡ 0)

-- the stage of the port in the run, by the port's grant and the units that were sent for it
abbrev pub IsAtStage : Run → Option ℕ → ℕ → PortFacts → Type 0
IsAtStage r grant sent_here x = IsNotPosted r sent_here x ⊎
    ((x.slot ≡ r.first) × (grant ≡ Some x.flow) × ByStage r.slots sent_here x.count x.settled x.stage)

-- a note is the settled number, and below the run's length
abbrev pub IsNote : Run → Option ℕ → Option ℕ → Type 0
IsNote r None settled = Unit {0}
IsNote r (Some n) settled = (settled ≡ Some n) × (n < r.slots)

-- what holds of a port: where a run is open, its stage in the run and its note; where none is, its last post rests and
-- is of an earlier run
abbrev pub IsPort : List Flow → ℕ → Option Run → List SentRun → ℕ → PortFacts → Type 0
IsPort flows next None sent port x = Rests x.stage × (x.slot < next)
IsPort flows next (Some r) sent port x = IsAtStage r (grant_in flows r.granted port) (sent_for sent port r.first) x ×
    IsNote r (note_in r.notes port) x.settled

-- What holds of the ports and the sent runs, beside a master that has credited so many units to each flow, with this
-- next slot and open run: there is a port for each ingress; each sent run is
-- in time; no two of one flow have a slot in common; the units sent of a flow are those credited to it and those sent
-- in the open run; and each port is at a stage.
pub record IsKept (flows : List Flow) (ports : ℕ) (credited : ℕ → ℕ) (next : ℕ) (run : Option Run) (xs : List PortFacts)
    (sent : List SentRun) : Type 0 where
  pub wide : length xs ≡ ports
  pub each_sent : All (IsSentRun flows next run) sent
  pub apart : AllPairs IsApart sent
  pub accounted : (f : ℕ) → sent_of sent f ≡ credited f + sent_now flows run sent f
  pub port : (p : ℕ) → p < ports → IsPort flows next run sent p (slice_index_or xs p idle_port)

-- what holds of the ports and the sent runs of a world, beside its master
abbrev pub IsKeptWorld : WorldFacts → Type 0
IsKeptWorld w =
    IsKept w.opening.table.flows w.opening.table.ports (state_of w.opening w.journal).sent
    (state_of w.opening w.journal).next (state_of w.opening w.journal).run w.ports w.sent

-- what holds of a port of a world, beside its master and the sent runs
abbrev pub IsPortOf : WorldFacts → ℕ → PortFacts → Type 0
IsPortOf w p x = IsPort w.opening.table.flows (state_of w.opening w.journal).next (state_of w.opening w.journal).run
    w.sent p x

-- each port tells how many units were sent for its last post
abbrev pub TellsSent : List PortState → List SentRun → Type 0
TellsSent ports sent = (p : ℕ) (d : PortState) → p < length ports →
    (slice_index_or ports p d).sent ≡ sent_for sent p (slice_index_or ports p d).slot
