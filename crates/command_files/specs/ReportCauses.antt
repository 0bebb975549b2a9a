-- Why the report of a file, or the printed journal, was not read. A command takes texts of one kind or of more, so where
-- a text is bad is said by the command.
use Rattle.std.specs.Prelude.{◌≡◌, ℕ, ◌≤◌, ◌<◌, ◌+◌, List, Option, Some, None, IfSome, length}
use Rattle.coflow_units.specs.declared.limits.TheConstants.{MAX_REPORT}
use Rattle.coflow_units.specs.declared.quantity.Quantity.{Quantity}
use Rattle.coflow_units.specs.declared.quantity.Quantity.TheVariants.{Text}
use Rattle.outside.specs.Shelf.{Told, bytes_of}
use Rattle.command_files.specs.declared.status.Status.{Status}
use Rattle.command_files.specs.declared.status.Status.TheVariants.{BadReport, Limit, NoMemory, ReadFault}
use Rattle.command_files.specs.FileCauses.{NameFailed, ShelfFailed}
use Rattle.command_files.specs.Limits.{EachMayLimit}

-- there is a file of a report, and it is bad at this line
abbrev pub IsBadReport : (List ℕ → ℕ → Type 0) → Option (List ℕ) → ℕ → Type 0
IsBadReport IsBad None line = ⊥
IsBadReport IsBad (Some text) line = (length text ≤ MAX_REPORT) × IsBad text line

-- there is a file of a report, and it is longer than those of so many bytes that are read
abbrev pub IsLongReport : ℕ → Option (List ℕ) → Type 0
IsLongReport most None = ⊥
IsLongReport most (Some text) = most < length text

-- the bytes of the report are more than so many
abbrev pub ReportLimit : ℕ → Option (List ℕ) → Quantity → ℕ → Type 0
ReportLimit most report which count = (which ≡ Text) × (count ≡ most + 1) × IsLongReport most report

-- the cause of a status that says why the report of a file was not read
abbrev pub IsReportCause : (List ℕ → ℕ → Type 0) → ℕ → ℕ → Option Told → Option Told → List ℕ → Status → Type 0
IsReportCause IsBad before now old new name (BadReport line) =
    IfSome old (λ t. IsBadReport IsBad (Some (bytes_of t name)) line)
IsReportCause IsBad before now old new name (Limit which count) =
    EachMayLimit which × IfSome old (λ t. ReportLimit MAX_REPORT (Some (bytes_of t name)) which count)
IsReportCause IsBad before now old new name (ReadFault count) =
    ShelfFailed before now old new (NameFailed name) count
IsReportCause IsBad before now old new name NoMemory = Unit {0}
IsReportCause IsBad before now old new name status = ⊥
