-- What `live` reads and writes.
use Rattle.std.specs.Prelude.{◌≡◌, ℕ, List, None, Option, Some}
use Rattle.command_words.specs.Jobs.{script_name, trace_name}
use Rattle.command_words.specs.Words.{Said}
use Rattle.flow_table.specs.Table.{TableFacts}
use Rattle.live_serving.specs.declared.answer.LiveFault.{LiveFault}
use Rattle.live_serving.specs.declared.answer.LiveFault.TheVariants as live_fault
use Rattle.outside.specs.Shelf.{Told}
use Rattle.workload.specs.declared.script.Script.{Script}
use Rattle.live_runs.specs.Told.{TellsLive, served_in}
use Rattle.command_files.specs.declared.status.Status.{Status}
use Rattle.command_files.specs.declared.status.Status.TheVariants.{NoMemory, WireFault}
use Rattle.command_files.specs.Inputs.{IsInput}
use Rattle.command_files.specs.Scripts.{IsScriptOf, IsShared}
use Rattle.command_files.specs.Written.{Appends}

-- there is a name of a script, and this is the script
abbrev pub IsScriptIfNamed : Option Told → Option (List ℕ) → List ℕ → Script → Type 0
IsScriptIfNamed told None ids script = ⊥
IsScriptIfNamed told (Some name) ids script = IsScriptOf told name ids script

-- The table, the weights and the script that the files give, and the text of a run of the script. The table has no more
-- units than clients may share live. Of it and the schedule this holds: it is what was sent.
pub record LiveOf (Sent : TableFacts → List (List ℕ) → Type 0) (told : Option Told) (said : Said) (text : List ℕ) :
    Type 0 where
  pub table : TableFacts
  pub weights : List ℕ
  pub input : IsInput told (trace_name said.job) said.weights said.unit table weights
  pub shared : IsShared table
  pub script : Script
  pub reads : IsScriptIfNamed told (script_name said.job) table.ids script
  pub tells : TellsLive table weights script said.run text
  pub sent : Sent table (served_in table weights script tells.journal)

-- the text of the run was written, and its schedule was sent
pub record WritesLive (Sent : TableFacts → List (List ℕ) → Type 0) (told : Option Told) (said : Said)
    (old new : Option (List ℕ)) : Type 0 where
  pub text : List ℕ
  pub run : LiveOf Sent told said text
  pub written : Appends old new text

-- the status says the fault
abbrev pub IsStatusOfLive : LiveFault → Status → Type 0
IsStatusOfLive (live_fault.WireFault port) status = status ≡ WireFault port 1
IsStatusOfLive live_fault.NoMemory status = status ≡ NoMemory
