-- Why the bytes of a file were not read.
use Rattle.std.specs.Prelude.{◌≡◌, ℕ, ◌<◌, ◌+◌, List, Option, Some, None, IfSome, length}
use Rattle.coflow_units.specs.declared.quantity.Quantity.TheVariants.{Text}
use Rattle.outside.specs.Rose.{Rose}
use Rattle.outside.specs.Shelf.{Told, bytes_of, faults_of}
use Rattle.command_files.specs.declared.status.Status.{Status}
use Rattle.command_files.specs.declared.status.Status.TheVariants.{Limit, NoMemory, ReadFault}
use Rattle.command_files.specs.Shelves.{OfBoth}

-- the count of faults of the name rose
abbrev pub NameFailed : List ℕ → Told → Told → Type 0
NameFailed name old new = Rose (faults_of old name) (faults_of new name)

-- there is a name, and its count of faults rose
abbrev pub NameFailedIf : Option (List ℕ) → Told → Told → Type 0
NameFailedIf None old new = ⊥
NameFailedIf (Some name) old new = NameFailed name old new

-- one call to the shelf failed: its count of faults rose, and, where it tells, this holds of what it told and tells
abbrev pub ShelfFailed : ℕ → ℕ → Option Told → Option Told → (Told → Told → Type 0) → ℕ → Type 0
ShelfFailed before now old new P count = (count ≡ 1) × Rose before now × OfBoth old new P

-- The cause of a status that says why the bytes of a file, of which so many are read at most, were not read.
-- The shelf had and has these counts of faults, and told and tells these files.
abbrev pub IsFileCause : ℕ → ℕ → ℕ → Option Told → Option Told → List ℕ → Status → Type 0
IsFileCause most before now old new name (Limit which count) =
    (which ≡ Text) × (count ≡ most + 1) × IfSome old (λ t. most < length (bytes_of t name))
IsFileCause most before now old new name (ReadFault count) = ShelfFailed before now old new (NameFailed name) count
IsFileCause most before now old new name NoMemory = Unit {0}
IsFileCause most before now old new name status = ⊥
