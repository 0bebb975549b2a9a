-- The law of the world: what holds after every list of steps.
use Rattle.std.specs.Prelude.{◌≡◌, ℕ, ◌+◌, ◌-◌, ◌<◌, ◌≤◌, min, List, [], ◌∷◌, ◌++◌, All, Contains, length, Option, Some}
use Rattle.std.specs.Prelude.{None}
use Rattle.coflow_units.specs.Flows.{coflow_of, units_of}
use Rattle.coflow_units.specs.Grants.{IsGrants, IsRunLength}
use Rattle.coflow_units.specs.Patient.{IsServedOrWaits}
use Rattle.coflow_units.specs.PortWord.{PortStage}
use Rattle.coflow_units.specs.PortWord.PortStage.{drawn, reported}
use Rattle.journal.specs.declared.command.Command.TheVariants.{Open}
use Rattle.journal.specs.declared.command.Entry.{Entry}
use Rattle.journal.specs.declared.command.Reply.TheVariants.{Closed, Opened}
use Rattle.journal.specs.declared.opening.Opening.{Opening}
use Rattle.journal.specs.State.{IsOpening, Run, owed, slot_end}
use Rattle.journal.specs.Fold.{state_of}
use Rattle.journal.specs.Journal.{IsLegal, line_of}
use Rattle.journal.specs.Sound.{InRange}
use Rattle.world_model.specs.declared.event.SentRun.{SentRun}
use Rattle.world_model.specs.Sent.{sent_in, sent_of, times_sent}
use Rattle.world_model.specs.World.{WorldFacts, run_of, port_at}
use Rattle.world_model.specs.Kept.{IsKeptWorld}
use Rattle.world_model.specs.Credited.{IsCredited}

-- each reply of the master is that of its definition, and each command was in range
abbrev pub IsLegalWorld : WorldFacts → Type 0
IsLegalWorld w = IsLegal w.opening w.journal × InRange w.opening w.journal

-- no pair of a slot and a flow was sent twice
abbrev pub SendsOnce : WorldFacts → Type 0
SendsOnce w = (slot f : ℕ) → times_sent w.sent slot f ≤ 1

-- the first slot after the open run, or the next slot where none is open
abbrev pub end_of : ℕ → Option Run → ℕ
end_of next None = next
end_of next (Some r) = r.first + r.slots

-- nothing was sent in that slot or a later one
abbrev pub SendsInTime : WorldFacts → Type 0
SendsInTime w = All (λ (x : SentRun). x.slot + x.units ≤ end_of (state_of w.opening w.journal).next (run_of w)) w.sent

-- no flow was sent more units than it has
abbrev pub SendsWithin : WorldFacts → Type 0
SendsWithin w = (f : ℕ) → sent_of w.sent f ≤ units_of w.opening.table.flows f

-- a closing closes the open run, the one that begins with its slot, and credits to each flow exactly the units that
-- were sent for it in the slots of the run
abbrev pub ClosesAsSent : WorldFacts → Type 0
ClosesAsSent w = (before more : List Entry) (e : Entry) (slot : ℕ) → w.journal ≡ before ++ e ∷ more →
    e.reply ≡ Closed slot →
    (r : Run) × ((state_of w.opening before).run ≡ Some r) × (r.first ≡ slot)
    × ((f : ℕ) → (state_of w.opening (before ++ e ∷ [])).sent f ≡ (state_of w.opening before).sent f +
    sent_in w.sent r f)

-- What an opening of at most so many slots makes, after these entries: a run that begins with the next slot and grants
-- so many flows, those that are the grants of the line and of what is owed
-- there. It is as long as the number asked for, the slots that are left, and the units that each of its flows owes
-- allow.
pub record IsRunOpened (o : Opening) (before : List Entry) (most slot slots count : ℕ) (r : Run) : Type 0 where
  pub begins : r.first ≡ slot
  pub at_next : slot ≡ (state_of o before).next
  pub lasts : r.slots ≡ slots
  pub counted : length r.granted ≡ count
  pub grants : IsGrants o.table.flows (line_of o before) (owed o (state_of o before)) r.granted
  pub longest : IsRunLength (owed o (state_of o before)) r.granted (min most (slot_end - slot)) slots

-- an opening answers a command that asks for at most some number of slots, and makes such a run
abbrev pub OpensGrants : WorldFacts → Type 0
OpensGrants w = (before more : List Entry) (e : Entry) (slot slots count : ℕ) → w.journal ≡ before ++ e ∷ more →
    e.reply ≡ Opened slot slots count →
    (most : ℕ) × (r : Run) × (e.command ≡ Open most) × ((state_of w.opening (before ++ e ∷ [])).run ≡ Some r) ×
    IsRunOpened w.opening before most slot slots count r

-- a flow of the line that owes units at an opening is granted, or waits for a granted flow of a coflow no later in the
-- line, with which it has a port in common
abbrev pub OpensPatiently : WorldFacts → Type 0
OpensPatiently w = (before more : List Entry) (e : Entry) (slot slots count : ℕ) (r : Run) →
    w.journal ≡ before ++ e ∷ more → e.reply ≡ Opened slot slots count →
    (state_of w.opening (before ++ e ∷ [])).run ≡ Some r → (f : ℕ) → f < length w.opening.table.flows →
    Contains (line_of w.opening before) (coflow_of w.opening.table.flows f) →
    0 < owed w.opening (state_of w.opening before) f →
    IsServedOrWaits w.opening.table.flows (line_of w.opening before) r.granted f

-- What every step keeps: the opening is one, the journal is legal, the ports and the sent runs are as they should be
-- beside the master, and each closing credited what was sent.
pub record IsWorld (w : WorldFacts) : Type 0 where
  pub opening : IsOpening w.opening
  pub legal : IsLegalWorld w
  pub kept : IsKeptWorld w
  pub credited : IsCredited w.opening w.sent (state_of w.opening w.journal).next w.journal

-- where an agent drew or reported a post, its number is below the number of agents
abbrev pub IsOfAgent : ℕ → PortStage → Type 0
IsOfAgent agents (drawn agent) = agent < agents
IsOfAgent agents (reported agent units) = agent < agents
IsOfAgent agents stage = Unit {0}

-- so it is at each port
abbrev pub AreDrawnByAgents : WorldFacts → Type 0
AreDrawnByAgents w = (port : ℕ) → IsOfAgent w.agents (port_at w port).stage
