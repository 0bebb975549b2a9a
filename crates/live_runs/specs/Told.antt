-- What is told of a run of `live` over a table, and what the wires have of it.
use Rattle.std.specs.Prelude.{◌≡◌, ℕ, ◌<◌, List, Option, length}
use Rattle.std.specs.List.{slice_index_or}
use Rattle.flow_table.specs.Table.{TableFacts}
use Rattle.journal.specs.declared.command.Entry.{Entry}
use Rattle.journal.specs.declared.opening.Opening.{Opening}
use Rattle.journal.specs.Closed.{schedule_of}
use Rattle.live_model.specs.Clause.{IsLiveRun}
use Rattle.live_model.specs.Script.{limit_of}
use Rattle.live_model.specs.Sent.{Wires}
use Rattle.live_runs.specs.Run.{opening_with}
use Rattle.live_serving.specs.Wires.{HaveServed, HaveStopped}
use Rattle.live_text.specs.declared.value.Live.{Live}
use Rattle.live_text.specs.Text.{live_text}
use Rattle.slot_runner.specs.Wires.{AreAllUnits, HaveMore}
use Rattle.outside.specs.Rose.{Rose}
use Rattle.workload.specs.declared.script.Script.{Script}

-- what a hall over the table begins with, whose journal has room for the script: as many entries as it has commands,
-- twice its rounds, twice the units, and two
abbrev pub live_opening : TableFacts → List ℕ → Script → Opening
live_opening table weights script = opening_with table weights (limit_of (opening_with table weights 0) script)

-- the schedule of the closed runs of a journal over the table
abbrev pub served_in : TableFacts → List ℕ → Script → List Entry → List (List ℕ)
served_in table weights script journal = schedule_of (live_opening table weights script) journal

-- The text is that of a run of the script in a hall over the table with these weights, whose driver opens runs of at most
-- so many slots. The journal is legal, so each reply is the one-thread master's; its clients' entries are the script's, in
-- its order. The text has the journal, its orders, the pulls, and the schedule of the closed runs.
pub record TellsLive (table : TableFacts) (weights : List ℕ) (script : Script) (most : ℕ) (text : List ℕ) : Type 0 where
  pub live : Live
  pub journal : List Entry
  pub wires : Wires
  pub run : IsLiveRun (live_opening table weights script) script most live journal wires
  pub text_is : text ≡ live_text live

module _ {W : Type 0} (runs : W → Option (List (ℕ × ℕ × ℕ))) where
  -- each wire has the units of the schedule at its port, each once, behind what it had, and nothing else
  abbrev pub SendsAll : List W → List W → TableFacts → List (List ℕ) → Type 0
  SendsAll before after table slots = HaveMore runs (AreAllUnits table.flows slots) table.ports before after

  -- Each wire has units at its port of the schedule of a legal journal, each once, behind what it had, and nothing
  -- else.
  -- No flow was sent more often than it has units.
  abbrev pub SendsSoFar : List W → List W → TableFacts → List ℕ → Script → Type 0
  SendsSoFar before after table weights script = HaveServed runs (live_opening table weights script) before after

module _ {W : Type 0} (faults : W → ℕ) (runs : W → Option (List (ℕ × ℕ × ℕ))) where
  -- The count of faults of the port's wire rose. What was sent is what a legal journal sent: of its last run a unit is
  -- missing at this port, and none at lesser ports. Each earlier run was sent whole.
  pub record FailsAt (before after : List W) (port : ℕ) (table : TableFacts) (weights : List ℕ) (script : Script) :
      Type 0 where
    pub fits : port < table.ports
    pub wire : port < length before
    pub rose : (b a : W) → Rose (faults (slice_index_or before port b)) (faults (slice_index_or after port a))
    pub stopped : HaveStopped runs (live_opening table weights script) port before after
