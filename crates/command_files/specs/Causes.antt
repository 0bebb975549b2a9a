-- What is wrong with the files of a command, looked at in this order:
-- the trace, the weights, the table, the report, the printed journal, the order or the script.
use Rattle.std.specs.Prelude.{◌≡◌, ℕ, List, Option, Some, None, IfSome}
use Rattle.command_words.specs.Jobs.{order_name, report_name, script_name, trace_name}
use Rattle.command_words.specs.Words.{Said}
use Rattle.coflow_units.specs.declared.quantity.Quantity.{Quantity}
use Rattle.coflow_units.specs.declared.quantity.Quantity.TheVariants.{Units}
use Rattle.orders.specs.declared.fault.OrderFault.{OrderFault}
use Rattle.outside.specs.Shelf.{Told, bytes_of}
use Rattle.trace_reader.specs.declared.fault.TraceFault.{TraceFault}
use Rattle.weights.specs.declared.fault.WeightsFault.{WeightsFault}
use Rattle.command_files.specs.declared.status.Status.{Status}
use Rattle.command_files.specs.declared.status.Status.TheVariants.{BadOrder, BadTrace, BadWeights, BadReport, BadScript, Limit, ReadFault, NoMemory}
use Rattle.command_files.specs.FileCauses.{NameFailedIf, ShelfFailed}
use Rattle.command_files.specs.Inputs.{bytes_if}
use Rattle.command_files.specs.InputCauses.{GiveTable, HasWeightsFault, InputFailed, LimitCause}
use Rattle.command_files.specs.Limits.{MayLimit, most_bytes}
use Rattle.command_files.specs.OrderCauses.{HasOrderFault, IsOrderForm}
use Rattle.command_files.specs.Orders.{HasOrderText}
use Rattle.command_files.specs.ReportCauses.{IsBadReport, ReportLimit}
use Rattle.command_files.specs.ScriptCauses.{IsBadScript, ScriptLimit}
use Rattle.command_files.specs.Scripts.{HasMoreUnits, HasScriptText, IsShared}
use Rattle.command_files.specs.TraceCauses.{HasTraceFault, IsTraceForm}
use Rattle.command_files.specs.WeightsCauses.{IsWeightsForm}

-- the files that are named give a table within its limits
abbrev pub FilesGiveTable : Said → Told → Type 0
FilesGiveTable said t = GiveTable (bytes_of t (trace_name said.job)) (bytes_if t said.weights) said.unit

-- there is a name
abbrev pub IsGiven : Option (List ℕ) → Type 0
IsGiven None = ⊥
IsGiven (Some name) = Unit {0}

-- the trace has this fault, and it is the first
abbrev pub FilesTraceFault : Said → TraceFault → Told → Type 0
FilesTraceFault said fault t = HasTraceFault (bytes_of t (trace_name said.job)) fault

-- the trace has no fault, and this is the first fault of the weights
abbrev pub FilesWeightsFault : Said → WeightsFault → Told → Type 0
FilesWeightsFault said fault t = HasWeightsFault (bytes_of t (trace_name said.job)) (bytes_if t said.weights) fault

-- the files give a table, and the other file is bad at this line
abbrev pub FilesBadReport : (List ℕ → ℕ → Type 0) → Said → ℕ → Told → Type 0
FilesBadReport IsBad said line t = FilesGiveTable said t × IsBadReport IsBad (bytes_if t (report_name said.job)) line

-- the files give a table, and an order of its coflows
abbrev pub FilesGiveOrder : Said → Told → Type 0
FilesGiveOrder said t = (g : FilesGiveTable said t) × HasOrderText g.table.ids (bytes_if t (order_name said.job))

-- the files give a table, and this is the first fault of the order
abbrev pub FilesBadOrder : Said → OrderFault → Told → Type 0
FilesBadOrder said fault t =
    (g : FilesGiveTable said t) × HasOrderFault g.table.ids (bytes_if t (order_name said.job)) fault

-- The files that are named give a table within its limits, and it has no more units than clients may share live.
pub record FilesGiveShared (said : Said) (t : Told) : Type 0 where
  pub given : FilesGiveTable said t
  pub shared : IsShared given.table

-- and they give a script over its coflows
abbrev pub FilesGiveScript : Said → Told → Type 0
FilesGiveScript said t =
    (s : FilesGiveShared said t) × HasScriptText s.given.table.ids (bytes_if t (script_name said.job))

-- the files give a table that clients may share live, and the script is bad at this field of this line
abbrev pub FilesBadScript : Said → ℕ → ℕ → Told → Type 0
FilesBadScript said line field t =
    (s : FilesGiveShared said t) × IsBadScript s.given.table.ids (bytes_if t (script_name said.job)) line field

-- A quantity of the files is outside its range, and nothing that is looked at before it is wrong: one of the trace, of
-- the weights or of the table, or the bytes of a report or of an order where there is a table. Where there is a table and
-- a script is named, it may be the units that clients share live, and where these are few, a quantity of the script.
pub data FilesLimit (said : Said) (which : Quantity) (count : ℕ) (t : Told) : Type 0 where
  in_input : LimitCause (bytes_of t (trace_name said.job)) (bytes_if t said.weights) said.unit which count →
      FilesLimit said which count t
  in_report : FilesGiveTable said t →
      ReportLimit (most_bytes said.job) (bytes_if t (report_name said.job)) which count → FilesLimit said which count t
  in_shared : IsGiven (script_name said.job) → (g : FilesGiveTable said t) → which ≡ Units →
      HasMoreUnits g.table count → FilesLimit said which count t
  in_script : (s : FilesGiveShared said t) →
      ScriptLimit s.given.table.ids (bytes_if t (script_name said.job)) which count → FilesLimit said which count t

-- The file whose reading failed: the trace, the weights where the trace has no fault, the report or the order where there
-- is a table, or the script where there is a table that clients may share live.
pub data FileFailed (said : Said) (old new : Told) : Type 0 where
  at_input : InputFailed (trace_name said.job) said.weights old new → FileFailed said old new
  at_report : FilesGiveTable said old → NameFailedIf (report_name said.job) old new → FileFailed said old new
  at_script : FilesGiveShared said old → NameFailedIf (script_name said.job) old new → FileFailed said old new

-- The cause of a status that comes before anything is written, in a command that reads files, where its reports are bad
-- in this way. The shelf had and has these counts of faults, and told and tells these files.
abbrev pub HasCauseInFiles : (List ℕ → ℕ → Type 0) → ℕ → ℕ → Option Told → Option Told → Said → Status → Type 0
HasCauseInFiles IsBad before now old new said (BadTrace fault) =
    IsTraceForm fault × IfSome old (FilesTraceFault said fault)
HasCauseInFiles IsBad before now old new said (BadWeights fault) =
    IsWeightsForm fault × IfSome old (FilesWeightsFault said fault)
HasCauseInFiles IsBad before now old new said (BadReport line) =
    IsGiven (report_name said.job) × (order_name said.job ≡ None) × IfSome old (FilesBadReport IsBad said line)
HasCauseInFiles IsBad before now old new said (BadScript line field) =
    IsGiven (script_name said.job) × IfSome old (FilesBadScript said line field)
HasCauseInFiles IsBad before now old new said (BadOrder fault) =
    IsOrderForm fault × IsGiven (order_name said.job) × IfSome old (FilesBadOrder said fault)
HasCauseInFiles IsBad before now old new said (Limit which count) =
    MayLimit said.job which × IfSome old (FilesLimit said which count)
HasCauseInFiles IsBad before now old new said (ReadFault count) =
    ShelfFailed before now old new (FileFailed said) count
HasCauseInFiles IsBad before now old new said NoMemory = Unit {0}
HasCauseInFiles IsBad before now old new said status = ⊥
