-- What `replay` reads and writes.
use Rattle.std.specs.Prelude.{◌≡◌, ℕ, List, Option, Contains}
use Rattle.coflow_units.specs.declared.quantity.Quantity.TheVariants.{Epochs}
use Rattle.command_words.specs.Jobs.{trace_name}
use Rattle.command_words.specs.Words.{Said}
use Rattle.flow_table.specs.Table.{IsTable, TableFacts}
use Rattle.online_check.specs.Arrivals.{arrivals_in}
use Rattle.outside.specs.Shelf.{Told}
use Rattle.rankers.specs.Meaning.{Meaning}
use Rattle.replays.specs.declared.rows.ReplayFault.{ReplayFault}
use Rattle.replays.specs.declared.rows.ReplayFault.TheVariants as replay_fault
use Rattle.replays.specs.declared.writing.ReplayReport.{ReplayReport}
use Rattle.replays.specs.Moments.{Input}
use Rattle.replays.specs.Replayed.{IsTooManyFor}
use Rattle.replays.specs.Reported.{IsBounded, IsReported}
use Rattle.replays.specs.Text.{replay_text}
use Rattle.command_files.specs.declared.status.Status.{Status}
use Rattle.command_files.specs.declared.status.Status.TheVariants.{Limit, NoMemory}
use Rattle.command_files.specs.Causes.{FilesGiveTable}
use Rattle.command_files.specs.Inputs.{IsInput}
use Rattle.command_files.specs.Written.{Appends}

-- the table with these weights, where a slot takes so many milliseconds and an epoch has so many slots
abbrev pub arriving : TableFacts → List ℕ → ℕ → ℕ → Input
arriving table weights slot_ms every = record {
  table = table;
  weights = weights;
  arrivals = arrivals_in table slot_ms;
  every = every;
}

-- what is replayed: the table with these weights, with slots and epochs as they are said
abbrev pub replay_input : TableFacts → List ℕ → Said → Input
replay_input table weights said = arriving table weights said.slot_ms said.epoch

-- The instance that the files give, and the text of the report of the replays of the bench on it. What arrivals cost is at
-- most the reported total, and that is at most the cost of every schedule that serves nobody before its arrival.
pub record ReplayOf (told : Option Told) (said : Said) (bench : List Meaning) (text : List ℕ) : Type 0 where
  pub table : TableFacts
  pub weights : List ℕ
  pub input : IsInput told (trace_name said.job) said.weights said.unit table weights
  pub report : ReplayReport
  pub reported : IsReported (replay_input table weights said) bench report
  pub bounded : IsBounded (replay_input table weights said) report
  pub text_is : text ≡ replay_text report

-- the text of the replays was written
pub record WritesReplay (told : Option Told) (said : Said) (bench : List Meaning) (old new : Option (List ℕ)) :
    Type 0 where
  pub text : List ℕ
  pub replays : ReplayOf told said bench text
  pub written : Appends old new text

-- The files give a table within its limits, and the replay of a ranker of the bench would publish more orders than may be
-- published.
pub record ReplaysPublishMore (bench : List Meaning) (said : Said) (count : ℕ) (t : Told) : Type 0 where
  pub given : FilesGiveTable said t
  pub fits : IsTable given.table
  pub ranker : Meaning
  pub on_bench : Contains bench ranker
  pub more : IsTooManyFor (replay_input given.table given.list said) ranker count

-- the status says the fault
abbrev pub IsStatusOfReplay : ReplayFault → Status → Type 0
IsStatusOfReplay (replay_fault.TooMany count) status = status ≡ Limit Epochs count
IsStatusOfReplay replay_fault.NoMemory status = status ≡ NoMemory
