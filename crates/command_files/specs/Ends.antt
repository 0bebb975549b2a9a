-- How a job ended: done, or at a fault of the shelf, of the sink or of a wire.
use Rattle.std.specs.Prelude.{◌≡◌, ℕ, Result, Ok, Err}
use Rattle.outside.specs.Rose.{RoseOnce, Rose}
use Rattle.command_files.specs.declared.status.Status.{Status}
use Rattle.command_files.specs.declared.status.Status.TheVariants as status

-- the job was done: its text was written whole
abbrev pub IsDone : Status → Type 0
IsDone status.Ok = Unit {0}
IsDone status.No = Unit {0}
IsDone other = ⊥

-- a call to the shelf failed
abbrev pub IsReadFault : Status → Type 0
IsReadFault (status.ReadFault count) = Unit {0}
IsReadFault other = ⊥

-- a call to the sink failed
abbrev pub IsWriteFault : Status → Type 0
IsWriteFault (status.WriteFault count) = Unit {0}
IsWriteFault other = ⊥

-- a wire did not accept a unit
abbrev pub IsWireFault : Status → Type 0
IsWireFault (status.WireFault port count) = Unit {0}
IsWireFault other = ⊥

-- All files were read: the text was there, whole or not, or units were being sent when a wire failed.
abbrev pub IsPastFiles : Status → Type 0
IsPastFiles status.Ok = Unit {0}
IsPastFiles status.No = Unit {0}
IsPastFiles (status.WriteFault count) = Unit {0}
IsPastFiles (status.WireFault port count) = Unit {0}
IsPastFiles other = ⊥

-- this holds where there is a text, and where a wire failed
abbrev pub IfPastFiles : {X : Type 0} → Result X Status → Type 0 → Type 0
IfPastFiles (Ok x) P = P
IfPastFiles (Err s) P = IsWireFault s → P

-- the shelf's count of faults is greater by one at a read fault, and else as before
abbrev pub CountsFault : {X : Type 0} → ℕ → ℕ → Result X Status → Type 0
CountsFault before now (Ok x) = now ≡ before
CountsFault before now (Err s) = ((IsReadFault s → ⊥) → now ≡ before) × (IsReadFault s → RoseOnce before now)

-- the count did not rise
abbrev pub IsStill : ℕ → ℕ → Type 0
IsStill before now = Rose before now → ⊥
