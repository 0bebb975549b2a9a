-- Why the trace of a file was not read.
use Rattle.std.specs.Prelude.{◌≡◌, ℕ, ◌≤◌, ◌<◌, ◌+◌, ◌⊎◌, List, Option, Some, IfSome, length}
use Rattle.coflow_units.specs.declared.limits.TheConstants.{MAX_TEXT}
use Rattle.coflow_units.specs.declared.quantity.Quantity.{Quantity}
use Rattle.coflow_units.specs.declared.quantity.Quantity.TheVariants.{Text}
use Rattle.outside.specs.Shelf.{Told, bytes_of}
use Rattle.text_fields.specs.Checks.{first_fault}
use Rattle.trace_reader.specs.Trace.{trace_checks}
use Rattle.trace_reader.specs.declared.fault.TraceFault.{TraceFault}
use Rattle.trace_reader.specs.declared.fault.TraceFault.TheVariants as trace_fault
use Rattle.command_files.specs.declared.status.Status.{Status}
use Rattle.command_files.specs.declared.status.Status.TheVariants.{BadTrace, Limit, NoMemory, ReadFault}
use Rattle.command_files.specs.FileCauses.{NameFailed, ShelfFailed}
use Rattle.command_files.specs.Limits.{EachMayLimit}

-- the text is longer than any trace or weights that are read
abbrev pub IsTooLong : List ℕ → Type 0
IsTooLong text = MAX_TEXT < length text

-- a fault of form in a trace: no quantity is outside its range, and memory did not run out
abbrev pub IsTraceForm : TraceFault → Type 0
IsTraceForm (trace_fault.Limit line which count) = ⊥
IsTraceForm trace_fault.NoMemory = ⊥
IsTraceForm fault = Unit {0}

-- the trace has this fault, and it is the first
pub record HasTraceFault (trace : List ℕ) (fault : TraceFault) : Type 0 where
  pub short : length trace ≤ MAX_TEXT
  pub first : first_fault (trace_checks trace) ≡ Some fault

-- the bytes of a trace are too many, or a quantity of it is outside its range and nothing before it is wrong
abbrev pub TraceLimit : List ℕ → Quantity → ℕ → Type 0
TraceLimit trace which count = ((which ≡ Text) × (count ≡ MAX_TEXT + 1) × IsTooLong trace)
    ⊎ ((line : ℕ) × HasTraceFault trace (trace_fault.Limit line which count))

-- the cause of a status that says why the trace of a file was not read
abbrev pub IsTraceCause : ℕ → ℕ → Option Told → Option Told → List ℕ → Status → Type 0
IsTraceCause before now old new name (BadTrace fault) =
    IsTraceForm fault × IfSome old (λ t. HasTraceFault (bytes_of t name) fault)
IsTraceCause before now old new name (Limit which count) =
    EachMayLimit which × IfSome old (λ t. TraceLimit (bytes_of t name) which count)
IsTraceCause before now old new name (ReadFault count) = ShelfFailed before now old new (NameFailed name) count
IsTraceCause before now old new name NoMemory = Unit {0}
IsTraceCause before now old new name status = ⊥
