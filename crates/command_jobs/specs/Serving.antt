-- What the commands that serve plans, online runs and scripts do on the wires of the ports.
use Rattle.std.specs.Prelude.{◌≡◌, ℕ, ◌<◌, ◌⊎◌, List, Option, length}
use Rattle.std.specs.List.{slice_index_or}
use Rattle.coflow_units.specs.declared.quantity.Quantity.TheVariants.{Epochs}
use Rattle.command_words.specs.Jobs.{Job, script_name, trace_name}
use Rattle.command_words.specs.Jobs.Job.{live_job, make_job, online_job, plan_job}
use Rattle.command_words.specs.Line.{Text}
use Rattle.command_words.specs.Words.{IsWords, Said}
use Rattle.flow_table.specs.Table.{TableFacts}
use Rattle.outside.specs.Rose.{Rose}
use Rattle.outside.specs.Shelf.{Told}
use Rattle.workload.specs.declared.script.Script.{Script}
use Rattle.live_runs.specs.Told.{FailsAt as LiveFails, SendsSoFar as LiveSends}
use Rattle.hall_online.specs.Told.{FailsAt, SendsSoFar, StopsShort as OnlineStops}
use Rattle.hall_plan.specs.Sent.{SendsPart, StopsShort}
use Rattle.command_files.specs.declared.status.Status.{Status}
use Rattle.command_files.specs.declared.status.Status.TheVariants.{Limit, NoMemory, Ok, WireFault, WriteFault}
use Rattle.command_files.specs.Inputs.{IsInput}
use Rattle.command_jobs.specs.Live.{IsScriptIfNamed}
use Rattle.command_jobs.specs.Make.{GivesMade}

-- what is served: the plan of a table with weights; its online run, where a slot takes so many milliseconds and an
-- epoch has so many slots; or a script over it
pub data Service : Type 0 where
  plan_of : TableFacts → List ℕ → Service
  online_of : TableFacts → List ℕ → ℕ → ℕ → Service
  script_of : TableFacts → List ℕ → Script → Service

-- this holds of the plan of the table and the weights that the texts of the seed give
abbrev pub ServesMade : (Service → Type 0) → ℕ → ℕ → Type 0
ServesMade P seed unit =
    (table : TableFacts) × (weights : List ℕ) × GivesMade seed unit table weights × P (plan_of table weights)

-- The job serves a plan, an online run or a script, and this holds of it. Its table, weights and script are those that
-- the files give, or its table and weights are those of the texts of the seed.
abbrev pub Serves : (Service → Type 0) → Job → Option Told → Said → Type 0
Serves P (plan_job trace) told said =
    (table : TableFacts) × (weights : List ℕ) ×
    IsInput told (trace_name said.job) said.weights said.unit table weights × P (plan_of table weights)
Serves P (make_job seed) told said = ServesMade P seed said.unit
Serves P (online_job trace) told said =
    (table : TableFacts) × (weights : List ℕ) ×
    IsInput told (trace_name said.job) said.weights said.unit table weights ×
    P (online_of table weights said.slot_ms said.epoch)
Serves P (live_job trace script) told said =
    (table : TableFacts) × (weights : List ℕ) ×
    IsInput told (trace_name said.job) said.weights said.unit table weights × (asked : Script) ×
    IsScriptIfNamed told (script_name said.job) table.ids asked × P (script_of table weights asked)
Serves P job told said = ⊥

-- with this status units may have been sent
abbrev pub MayHaveSent : Status → Type 0
MayHaveSent Ok = Unit {0}
MayHaveSent (Limit which count) = which ≡ Epochs
MayHaveSent (WriteFault count) = Unit {0}
MayHaveSent (WireFault port count) = Unit {0}
MayHaveSent NoMemory = Unit {0}
MayHaveSent status = ⊥

module _ {W : Type 0} (runs : W → Option (List (ℕ × ℕ × ℕ))) where
  -- Behind what each wire had it has units at its port of what is served, none twice, and nothing else: of a plan's
  -- schedule; of what an online run has served so far, in which no slot at or before its arrival has a flow of a
  -- coflow; or of what a legal journal has served.
  abbrev pub Sends : List W → List W → Service → Type 0
  Sends before after (plan_of table weights) = SendsPart runs before after table weights
  Sends before after (online_of table weights slot_ms every) = SendsSoFar runs before after table weights slot_ms every
  Sends before after (script_of table weights script) = LiveSends runs before after table weights script

  -- The wires are as before, or the job of the words serves a plan, an online run or a script, and they have units of
  -- it.
  abbrev pub SendsOnly : List W → List W → Option Told → List Text → Type 0
  SendsOnly before after told words =
      (after ≡ before)
      ⊎ ((said : Said) × IsWords words said × Serves (Sends before after) said.job told said)

module _ {W : Type 0} (faults : W → ℕ) (runs : W → Option (List (ℕ × ℕ × ℕ))) where
  -- The count of faults of the port's wire rose. Of the units of a plan's schedule one at this port is missing in the
  -- last slot, and of those at lesser ports none up to that slot. So it is with the last run of an online run, and with
  -- the last one that served a script.
  abbrev pub Stops : List W → List W → ℕ → Service → Type 0
  Stops before after port (plan_of table weights) = StopsShort faults runs before after port table weights
  Stops before after port (online_of table weights slot_ms every) =
      FailsAt faults before after port table × OnlineStops runs before after port table weights slot_ms every
  Stops before after port (script_of table weights script) =
      LiveFails faults runs before after port table weights script

  -- One wire failed: the job of the words serves a plan, an online run or a script, and stops at this port.
  abbrev pub WireFailed : List W → List W → Option Told → List Text → ℕ → ℕ → Type 0
  WireFailed before after told words port count =
      (count ≡ 1) × (said : Said) × IsWords words said × Serves (Stops before after port) said.job told said

module _ {W : Type 0} (faults : W → ℕ) where
  -- no wire's count of faults rose
  abbrev pub AreStill : List W → List W → Type 0
  AreStill before after =
      (port : ℕ) (b a : W) → port < length before →
      Rose (faults (slice_index_or before port b)) (faults (slice_index_or after port a)) → ⊥
