-- What each step does in a world, and what it is answered.
use Rattle.std.specs.Prelude.{◌≡◌, ℕ, ◌==◌, Bool, not, true, false, if◌then◌else◌, List, [], ◌∷◌, ◌++◌, map, Option}
use Rattle.std.specs.Prelude.{Some, None, slice_set, unwrap_or}
use Rattle.coflow_units.specs.PortWord.{word_of}
use Rattle.coflow_units.specs.PortWord.PortStage.{granted, drawn, reported}
use Rattle.journal.specs.declared.command.Command.{Command}
use Rattle.journal.specs.declared.command.Command.TheVariants.{Short}
use Rattle.journal.specs.declared.command.Command.TheVariants.{Close as CloseRun}
use Rattle.journal.specs.declared.command.Reply.{Reply}
use Rattle.journal.specs.declared.command.Reply.TheVariants.{Opened}
use Rattle.journal.specs.State.{Run}
use Rattle.journal.specs.Runs.{grant_in}
use Rattle.journal.specs.Answer.{reply_of}
use Rattle.journal.specs.Fold.{state_of}
use Rattle.journal.specs.Journal.{is_full, is_refusal, journal_after}
use Rattle.world_model.specs.declared.event.Event.{Event}
use Rattle.world_model.specs.declared.event.Event.TheVariants.{Ask, Post, Draw, Send, Report, Settle, Note, Close}
use Rattle.world_model.specs.declared.event.Happened.{Happened}
use Rattle.world_model.specs.declared.event.Happened.TheVariants.{Replied, Posted, Drawn, Sent, Reported, Noted}
use Rattle.world_model.specs.declared.event.Happened.TheVariants.{Blocked}
use Rattle.world_model.specs.declared.event.SentRun.{SentRun}
use Rattle.world_model.specs.Port.{PortFacts, answered_by, settled_by}
use Rattle.world_model.specs.Sent.{sent_for}
use Rattle.world_model.specs.World.{WorldFacts, port_at, run_of}
use Rattle.world_model.specs.Guards.{can}

-- the reply opens a run
abbrev pub is_opened : Reply → Bool
is_opened (Opened slot slots count) = true
is_opened reply = false

-- the ports with nothing settled
abbrev pub cleared : List PortFacts → List PortFacts
cleared xs = map (λ (x : PortFacts). record x { settled = None }) xs

-- where a run is opened, nothing is settled for it yet
abbrev pub ports_after : List PortFacts → Reply → List PortFacts
ports_after xs reply = if is_opened reply then cleared xs else xs

-- the master answers a command
abbrev pub asks : WorldFacts → ℕ → Command → WorldFacts
asks w who k = record w {
  journal = journal_after w.opening w.journal who k;
  ports = ports_after w.ports (reply_of w.opening w.journal k);
}

-- one port changes
abbrev pub with_port : WorldFacts → ℕ → PortFacts → WorldFacts
with_port w port x = record w { ports = slice_set w.ports port x }

-- the grant of the port in the run is posted, with the run's first slot, and the run's length as its count
abbrev pub posted : WorldFacts → ℕ → Option Run → WorldFacts
posted w port None = w
posted w port (Some r) = with_port w port
    (record (port_at w port) {
      slot = r.first;
      flow = unwrap_or (grant_in w.opening.table.flows r.granted port) 0;
      stage = granted;
      count = r.slots;
    })

-- the units that were sent for the port's last post
abbrev pub sent_at : WorldFacts → ℕ → ℕ
sent_at w port = sent_for w.sent port (port_at w port).slot

-- the run that sends so many units of what was posted at the port
abbrev pub run_sent : WorldFacts → ℕ → ℕ → SentRun
run_sent w port units = record {
  slot = (port_at w port).slot;
  flow = (port_at w port).flow;
  units = units;
  port = port;
}

-- the note of what was settled at the port
abbrev pub settled_note : WorldFacts → ℕ → Command
settled_note w port = Short port (unwrap_or (port_at w port).settled 0)

-- what a step does that may be taken
abbrev pub moved : WorldFacts → Event → WorldFacts
moved w (Ask who k) = asks w who k
moved w (Post port) = posted w port (run_of w)
moved w (Draw agent port) = with_port w port (record (port_at w port) { stage = drawn agent })
moved w (Send agent port units) = record w { sent = w.sent ++ run_sent w port units ∷ [] }
moved w (Report agent port) = with_port w port
    (record (port_at w port) { stage = reported agent (sent_at w port); count = sent_at w port })
moved w (Settle port) = with_port w port (settled_by (port_at w port) (port_at w port).stage)
moved w (Note port) = asks w 0 (settled_note w port)
moved w Close = asks w 0 CloseRun

-- what it is answered
abbrev pub answered : WorldFacts → Event → Happened
answered w (Ask who k) = Replied (reply_of w.opening w.journal k)
answered w (Post port) = Posted
answered w (Draw agent port) = Drawn
answered w (Send agent port units) = Sent
answered w (Report agent port) = Reported
answered w (Settle port) = answered_by (port_at w port) (port_at w port).stage
answered w (Note port) = Noted (reply_of w.opening w.journal (settled_note w port))
answered w Close = Replied (reply_of w.opening w.journal CloseRun)

-- the world after a step; one that may not be taken changes nothing
abbrev pub world_after : WorldFacts → Event → WorldFacts
world_after w e = if can w e then moved w e else w

-- the answer to a step, which is Blocked where the step may not be taken
abbrev pub happened : WorldFacts → Event → Happened
happened w e = if can w e then answered w e else Blocked

-- the step settles a post that an agent has drawn and not reported, and this is the word of its port
abbrev pub IsBusy : WorldFacts → Event → ℕ → Type 0
IsBusy w (Settle port) word = (agent : ℕ) × (can w (Settle port) ≡ true) × ((port_at w port).stage ≡ drawn agent) ×
    (word ≡ word_of (drawn agent) (port_at w port).slot (port_at w port).flow)
IsBusy w e word = ⊥

-- after a list of steps
abbrev pub world_of : WorldFacts → List Event → WorldFacts
world_of w [] = w
world_of w (e ∷ es) = world_of (world_after w e) es

-- the step leaves this port as it is: it is at another port, or is none of those that change a port. A command may open
-- a run, which clears what was settled everywhere.
abbrev pub leaves : Event → ℕ → Bool
leaves (Ask who k) q = false
leaves (Post port) q = not (port == q)
leaves (Draw agent port) q = not (port == q)
leaves (Report agent port) q = not (port == q)
leaves (Settle port) q = not (port == q)
leaves e q = true

-- the step was answered that the journal is full
abbrev pub is_full_answer : Happened → Bool
is_full_answer (Replied reply) = is_full reply
is_full_answer (Noted reply) = is_full reply
is_full_answer answer = false

-- the step was answered by a refusal of the master
abbrev pub is_refused_answer : Happened → Bool
is_refused_answer (Replied reply) = is_refusal reply
is_refused_answer (Noted reply) = is_refusal reply
is_refused_answer answer = false

-- the second world differs from the first at most in its journal, and the state that is read from that is the same
abbrev pub IsSameButJournal : WorldFacts → WorldFacts → Type 0
IsSameButJournal w v = (v.opening ≡ w.opening) × (v.agents ≡ w.agents) × (v.ports ≡ w.ports) × (v.sent ≡ w.sent) ×
    (state_of v.opening v.journal ≡ state_of w.opening w.journal)

-- the step sends units: the only one that takes memory
abbrev pub is_send : Event → Bool
is_send (Send agent port units) = true
is_send e = false
