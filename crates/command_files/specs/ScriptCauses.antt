-- Why the script of a file was not read.
use Rattle.std.specs.Prelude.{◌≡◌, ℕ, ◌≤◌, ◌+◌, ◌⊎◌, List, Option, Some, None, IfSome, length}
use Rattle.coflow_units.specs.declared.limits.TheConstants.{MAX_TEXT}
use Rattle.coflow_units.specs.declared.quantity.Quantity.{Quantity}
use Rattle.coflow_units.specs.declared.quantity.Quantity.TheVariants.{Text}
use Rattle.outside.specs.Shelf.{Told, bytes_of}
use Rattle.workload.specs.Checks.{text_checks}
use Rattle.workload.specs.declared.fault.ScriptFault.{ScriptFault}
use Rattle.workload.specs.declared.fault.ScriptFault.TheVariants as script_fault
use Rattle.text_fields.specs.Checks.{first_fault}
use Rattle.command_files.specs.declared.status.Status.{Status}
use Rattle.command_files.specs.declared.status.Status.TheVariants.{BadScript, Limit, NoMemory, ReadFault}
use Rattle.command_files.specs.FileCauses.{NameFailed, ShelfFailed}
use Rattle.command_files.specs.Limits.{ClientsMayLimit}
use Rattle.command_files.specs.WeightsCauses.{AreTooLong}

-- there is a file of a script over the coflows of these ids, and this is its first fault
abbrev pub HasScriptFault : List ℕ → Option (List ℕ) → ScriptFault → Type 0
HasScriptFault ids None fault = ⊥
HasScriptFault ids (Some text) fault =
    (length text ≤ MAX_TEXT) × (first_fault (text_checks ids text) ≡ Some fault)

-- there is a file of a script, and its first fault is this one of form
abbrev pub IsBadScript : List ℕ → Option (List ℕ) → ℕ → ℕ → Type 0
IsBadScript ids script line field = HasScriptFault ids script (script_fault.Bad line field)

-- the bytes of the script are too many, or a quantity of it is outside its range and nothing before it is wrong
abbrev pub ScriptLimit : List ℕ → Option (List ℕ) → Quantity → ℕ → Type 0
ScriptLimit ids script which count = ((which ≡ Text) × (count ≡ MAX_TEXT + 1) × AreTooLong script)
    ⊎ HasScriptFault ids script (script_fault.Limit which count)

-- the cause of a status that says why the script of a file, over the coflows of these ids, was not read
abbrev pub IsScriptCause : List ℕ → ℕ → ℕ → Option Told → Option Told → List ℕ → Status → Type 0
IsScriptCause ids before now old new name (BadScript line field) =
    IfSome old (λ t. IsBadScript ids (Some (bytes_of t name)) line field)
IsScriptCause ids before now old new name (Limit which count) =
    ClientsMayLimit which × IfSome old (λ t. ScriptLimit ids (Some (bytes_of t name)) which count)
IsScriptCause ids before now old new name (ReadFault count) =
    ShelfFailed before now old new (NameFailed name) count
IsScriptCause ids before now old new name NoMemory = Unit {0}
IsScriptCause ids before now old new name status = ⊥
