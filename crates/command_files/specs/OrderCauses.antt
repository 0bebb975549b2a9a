-- Why the order of a file was not read.
use Rattle.std.specs.Prelude.{◌≡◌, ℕ, ◌≤◌, List, Option, Some, None, IfSome, length}
use Rattle.coflow_units.specs.declared.limits.TheConstants.{MAX_TEXT}
use Rattle.orders.specs.Orders.{text_checks}
use Rattle.orders.specs.declared.fault.OrderFault.{OrderFault}
use Rattle.orders.specs.declared.fault.OrderFault.TheVariants as order_fault
use Rattle.outside.specs.Shelf.{Told, bytes_of}
use Rattle.text_fields.specs.Checks.{first_fault}
use Rattle.command_files.specs.declared.status.Status.{Status}
use Rattle.command_files.specs.declared.status.Status.TheVariants.{BadOrder, Limit, NoMemory, ReadFault}
use Rattle.command_files.specs.FileCauses.{NameFailed, ShelfFailed}
use Rattle.command_files.specs.Limits.{EachMayLimit}
use Rattle.command_files.specs.ReportCauses.{ReportLimit}

-- a fault of form in an order: memory did not run out
abbrev pub IsOrderForm : OrderFault → Type 0
IsOrderForm order_fault.NoMemory = ⊥
IsOrderForm fault = Unit {0}

-- there is a file of an order of the coflows of these ids, and this is its first fault
abbrev pub HasOrderFault : List ℕ → Option (List ℕ) → OrderFault → Type 0
HasOrderFault ids None fault = ⊥
HasOrderFault ids (Some text) fault =
    (length text ≤ MAX_TEXT) × (first_fault (text_checks text ids) ≡ Some fault)

-- the cause of a status that says why the order of a file, of the coflows of these ids, was not read
abbrev pub IsOrderCause : List ℕ → ℕ → ℕ → Option Told → Option Told → List ℕ → Status → Type 0
IsOrderCause ids before now old new name (BadOrder fault) =
    IsOrderForm fault × IfSome old (λ t. HasOrderFault ids (Some (bytes_of t name)) fault)
IsOrderCause ids before now old new name (Limit which count) =
    EachMayLimit which × IfSome old (λ t. ReportLimit MAX_TEXT (Some (bytes_of t name)) which count)
IsOrderCause ids before now old new name (ReadFault count) =
    ShelfFailed before now old new (NameFailed name) count
IsOrderCause ids before now old new name NoMemory = Unit {0}
IsOrderCause ids before now old new name status = ⊥
