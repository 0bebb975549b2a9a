-- Why a plan was not served.
use Rattle.std.specs.Prelude.{◌≡◌, ℕ}
use Rattle.command_files.specs.declared.status.Status.{Status}
use Rattle.command_files.specs.declared.status.Status.TheVariants.{WireFault}

-- the cause of a wire fault: one is counted, and this holds of the port
abbrev pub IsWireCause : (ℕ → Type 0) → Status → Type 0
IsWireCause P (WireFault port count) = (count ≡ 1) × P port
IsWireCause P status = ⊥
