-- What `online` reads and writes.
use Rattle.std.specs.Prelude.{◌≡◌, ℕ, List, Option}
use Rattle.coflow_units.specs.declared.quantity.Quantity.TheVariants.{Epochs}
use Rattle.command_words.specs.Jobs.{trace_name}
use Rattle.command_words.specs.Words.{Said}
use Rattle.flow_table.specs.Table.{IsTable, TableFacts, instance_of}
use Rattle.hall_online.specs.declared.answer.OnlineFault.{OnlineFault}
use Rattle.hall_online.specs.declared.answer.OnlineFault.TheVariants as online_fault
use Rattle.online_check.specs.Sound.{IsSoundOnline}
use Rattle.outside.specs.Shelf.{Told}
use Rattle.schedule_model.specs.RunList.{slots_in}
use Rattle.hall_online.specs.Told.{PublishesMore, TellsOnline}
use Rattle.command_files.specs.declared.status.Status.{Status}
use Rattle.command_files.specs.declared.status.Status.TheVariants.{Limit, NoMemory, WireFault}
use Rattle.command_files.specs.Causes.{FilesGiveTable}
use Rattle.command_files.specs.Inputs.{IsInput}
use Rattle.command_files.specs.Written.{Appends}
use Rattle.command_files.specs.Arrivals.{arrival_of}

-- The instance that the files give, and the text of its online run, where a slot takes as many milliseconds and an epoch
-- has as many slots as are said. Of the table and the run's schedule this holds: it is what was sent.
pub record OnlineOf (Sent : TableFacts → List (List ℕ) → Type 0) (told : Option Told) (said : Said) (text : List ℕ) :
    Type 0 where
  pub table : TableFacts
  pub weights : List ℕ
  pub input : IsInput told (trace_name said.job) said.weights said.unit table weights
  pub tells : TellsOnline table weights said.slot_ms said.epoch text
  pub sent : Sent table (slots_in tells.online.runs)

-- The text of the online run was written, and its schedule was sent. All that it says is right: the schedule is valid and
-- serves nobody before its arrival, the completions and the cost are the schedule's, and the total is at most the cost of
-- every schedule that serves nobody before its arrival. The bound of each publishing is at most the cost of every valid
-- schedule of what was left there.
pub record WritesOnline (Sent : TableFacts → List (List ℕ) → Type 0) (told : Option Told) (said : Said)
    (old new : Option (List ℕ)) : Type 0 where
  pub text : List ℕ
  pub run : OnlineOf Sent told said text
  pub right : IsSoundOnline (instance_of run.table run.weights) (arrival_of run.table said) run.table.ids
      run.tells.online
  pub written : Appends old new text

-- ---- too many publishings

-- The files give a table within its limits, and its online run would publish more orders than may be published.
pub record FilesPublishMore (said : Said) (count : ℕ) (t : Told) : Type 0 where
  pub given : FilesGiveTable said t
  pub fits : IsTable given.table
  pub more : PublishesMore given.table given.list said.slot_ms said.epoch count

-- the cause of a limit of epochs: this holds of the number of the next publishing
abbrev pub IsEpochsCause : (ℕ → Type 0) → Status → Type 0
IsEpochsCause P (Limit which count) = (which ≡ Epochs) × P count
IsEpochsCause P status = ⊥

-- the status says the fault
abbrev pub IsStatusOfOnline : OnlineFault → Status → Type 0
IsStatusOfOnline (online_fault.WireFault port) status = status ≡ WireFault port 1
IsStatusOfOnline (online_fault.TooMany count) status = status ≡ Limit Epochs count
IsStatusOfOnline online_fault.NoMemory status = status ≡ NoMemory
