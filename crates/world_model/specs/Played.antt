-- How a run of the driver is played in a world, by which steps, and what that makes of the world.
use Rattle.std.specs.Prelude.{◌≡◌, ℕ, ◌<◌, ◌==◌, Bool, true, false, if◌then◌else◌, List, [], ◌∷◌, ◌++◌, map, Option}
use Rattle.std.specs.Prelude.{Some, None}
use Rattle.std.specs.List.{flat_map, range_with_len}
use Rattle.journal.specs.declared.command.Command.{Command}
use Rattle.journal.specs.declared.command.Command.TheVariants.{Open, Short}
use Rattle.journal.specs.declared.command.Entry.{Entry}
use Rattle.journal.specs.Runs.{grant_in}
use Rattle.journal.specs.Driven.{Drive, driven}
use Rattle.world_model.specs.declared.event.Event.{Event}
use Rattle.world_model.specs.declared.event.Event.TheVariants.{Ask, Post, Draw, Send, Report, Settle, Note, Close}
use Rattle.world_model.specs.declared.event.Happened.{Happened}
use Rattle.world_model.specs.declared.event.Happened.TheVariants.{Blocked, Busy}
use Rattle.world_model.specs.declared.event.SentRun.{SentRun}
use Rattle.world_model.specs.World.{WorldFacts}
use Rattle.world_model.specs.Steps.{happened, world_after}

-- the flow that the driven run grants at a port
abbrev pub driven_at : WorldFacts → Drive → ℕ → Option ℕ
driven_at w d port = grant_in w.opening.table.flows (driven w.opening w.journal d) port

-- ---- what a driven run sends

-- so many units of the flow that are sent from the port, from the slot on, where there are any
abbrev pub units_sent : ℕ → ℕ → ℕ → ℕ → List SentRun
units_sent slot f port units =
    if units == 0 then [] else record { slot = slot; flow = f; units = units; port = port } ∷ []

-- what the run sends from a port with this grant
abbrev pub run_at : Drive → ℕ → Option ℕ → List SentRun
run_at d port None = []
run_at d port (Some f) = units_sent d.first f port (d.sent port)

-- what the run sends from so many ports with these grants, in their order
abbrev pub runs_sent : (ℕ → Option ℕ) → Drive → ℕ → List SentRun
runs_sent granted d ports = flat_map (λ port. run_at d port (granted port)) (range_with_len 0 ports)

-- the second world has the first one's opening and this journal, and after what was sent in the first one comes what
-- the driven run sends, in the order of the ports
pub record IsPlayed (w v : WorldFacts) (after : List Entry) (d : Drive) : Type 0 where
  pub opening : v.opening ≡ w.opening
  pub journal : v.journal ≡ after
  pub sent : v.sent ≡ w.sent ++ runs_sent (driven_at w d) d w.opening.table.ports

-- ---- the steps of a driven run

-- the step by which a command comes into the journal: the driver notes a port by Note, and all else is asked
abbrev pub step_by : ℕ → Command → Event
step_by who (Short port units) = Note port
step_by who k = Ask who k

-- the step that adds an entry
abbrev pub step_of : Entry → Event
step_of e = step_by e.who e.command

-- the agent sends so many units from the port, where there are any
abbrev pub send_steps : ℕ → ℕ → ℕ → List Event
send_steps agent port units = if units == 0 then [] else Send agent port units ∷ []

-- The turn of a grant at its port: the driver posts it, the agent draws it, sends so many units of it and reports them,
-- and the driver settles the port.
abbrev pub turn : ℕ → ℕ → ℕ → List Event
turn agent port units =
    Post port ∷ Draw agent port ∷ (send_steps agent port units ++ (Report agent port ∷ Settle port ∷ []))

-- the turn of a port with this grant, with the agent that draws there
abbrev pub turn_at : (ℕ → ℕ) → Drive → ℕ → Option ℕ → List Event
turn_at agent_at d port None = []
turn_at agent_at d port (Some f) = turn (agent_at port) port (d.sent port)

-- the turns of so many ports with these grants, in their order
abbrev pub turns : (ℕ → ℕ) → (ℕ → Option ℕ) → Drive → ℕ → List Event
turns agent_at granted d ports = flat_map (λ port. turn_at agent_at d port (granted port)) (range_with_len 0 ports)

-- The steps of a driven run: what others ask before it, its opening, the turns of its grants in the order of their
-- ports, what others ask and the driver notes after them, and the closing.
abbrev pub events_of : WorldFacts → (ℕ → ℕ) → Drive → List Event
events_of w agent_at d =
    map step_of d.earlier
    ++ (Ask 0 (Open d.most) ∷ (turns agent_at (driven_at w d) d w.opening.table.ports
    ++ (map step_of d.between ++ (Close ∷ []))))

-- at each port an agent of the world draws
abbrev pub AreAgents : WorldFacts → (ℕ → ℕ) → Type 0
AreAgents w agent_at = (port : ℕ) → port < w.opening.table.ports → agent_at port < w.agents

-- the answer tells that the step was taken: it is neither Blocked nor Busy
abbrev pub is_taken : Happened → Bool
is_taken Blocked = false
is_taken (Busy word) = false
is_taken answer = true

-- each of the steps is taken in the world that the earlier ones make
abbrev pub AreTaken : WorldFacts → List Event → Type 0
AreTaken w [] = Unit {0}
AreTaken w (e ∷ es) = (is_taken (happened w e) ≡ true) × AreTaken (world_after w e) es
