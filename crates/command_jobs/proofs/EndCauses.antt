-- The statuses with which a plan or an online run that is served ends before its text is there.
use Rattle.std.proofs.Common.{◌≡◌, ℕ, ap, inl, inr, refl, sym, subst}
use Rattle.std.specs.Prelude.{◌⊎◌}
use Rattle.command_files.specs.declared.status.Status.{Status}
use Rattle.command_files.specs.declared.status.Status.TheVariants as status
use Rattle.coflow_units.specs.declared.quantity.Quantity.TheVariants.{Epochs}
use Rattle.command_jobs.specs.Make.{HasMadeCause}
use Rattle.command_jobs.specs.Online.{IsEpochsCause}
use Rattle.command_jobs.specs.Record.{IsPolicyCause}
use Rattle.command_files.specs.WireCauses.{IsWireCause}

-- a wire fault
pub by_wire : (P : ℕ → Type 0) (s : Status) → IsWireCause P s → (port : ℕ) × (count : ℕ) × (s ≡ status.WireFault port count) × P port
by_wire P (status.WireFault port count) (one, p) = (port, count, refl, p)
by_wire P status.Ok cause = absurd cause
by_wire P status.No cause = absurd cause
by_wire P status.Usage cause = absurd cause
by_wire P status.UnknownPolicy cause = absurd cause
by_wire P (status.BadTrace fault) cause = absurd cause
by_wire P (status.BadWeights fault) cause = absurd cause
by_wire P (status.BadReport line) cause = absurd cause
by_wire P (status.BadScript line field) cause = absurd cause
by_wire P (status.BadOrder fault) cause = absurd cause
by_wire P (status.Limit which count) cause = absurd cause
by_wire P (status.ReadFault count) cause = absurd cause
by_wire P (status.WriteFault count) cause = absurd cause
by_wire P status.NoMemory cause = absurd cause

-- a limit of epochs
pub by_epochs : (P : ℕ → Type 0) (s : Status) → IsEpochsCause P s → (count : ℕ) × (s ≡ status.Limit Epochs count) × P count
by_epochs P (status.Limit which count) (is, p) = (count, ap (λ w. status.Limit w count) is, p)
by_epochs P status.Ok cause = absurd cause
by_epochs P status.No cause = absurd cause
by_epochs P status.Usage cause = absurd cause
by_epochs P status.UnknownPolicy cause = absurd cause
by_epochs P (status.BadTrace fault) cause = absurd cause
by_epochs P (status.BadWeights fault) cause = absurd cause
by_epochs P (status.BadReport line) cause = absurd cause
by_epochs P (status.BadScript line field) cause = absurd cause
by_epochs P (status.BadOrder fault) cause = absurd cause
by_epochs P (status.WireFault port count) cause = absurd cause
by_epochs P (status.ReadFault count) cause = absurd cause
by_epochs P (status.WriteFault count) cause = absurd cause
by_epochs P status.NoMemory cause = absurd cause

-- a policy that no ranker has
pub by_policy : (P : Type 0) (s : Status) → IsPolicyCause P s → (s ≡ status.UnknownPolicy) × P
by_policy P status.UnknownPolicy p = (refl, p)
by_policy P status.Ok cause = absurd cause
by_policy P status.No cause = absurd cause
by_policy P status.Usage cause = absurd cause
by_policy P (status.BadTrace fault) cause = absurd cause
by_policy P (status.BadWeights fault) cause = absurd cause
by_policy P (status.BadReport line) cause = absurd cause
by_policy P (status.BadScript line field) cause = absurd cause
by_policy P (status.BadOrder fault) cause = absurd cause
by_policy P (status.Limit which count) cause = absurd cause
by_policy P (status.WireFault port count) cause = absurd cause
by_policy P (status.ReadFault count) cause = absurd cause
by_policy P (status.WriteFault count) cause = absurd cause
by_policy P status.NoMemory cause = absurd cause

-- want of memory
pub by_made : (s : Status) → HasMadeCause s → s ≡ status.NoMemory
by_made status.NoMemory cause = refl
by_made status.Ok cause = absurd cause
by_made status.No cause = absurd cause
by_made status.Usage cause = absurd cause
by_made status.UnknownPolicy cause = absurd cause
by_made (status.BadTrace fault) cause = absurd cause
by_made (status.BadWeights fault) cause = absurd cause
by_made (status.BadReport line) cause = absurd cause
by_made (status.BadScript line field) cause = absurd cause
by_made (status.BadOrder fault) cause = absurd cause
by_made (status.Limit which count) cause = absurd cause
by_made (status.ReadFault count) cause = absurd cause
by_made (status.WriteFault count) cause = absurd cause
by_made (status.WireFault port count) cause = absurd cause

-- so what holds of both holds of the status
pub of_served : (P : ℕ → Type 0) (Q : Status → Type 0) (s : Status) → Q status.NoMemory → ((port count : ℕ) → Q (status.WireFault port count)) →
    HasMadeCause s ⊎ IsWireCause P s → Q s
of_served P Q s none wire (inl made) = subst Q (sym (by_made s made)) none
of_served P Q s none wire (inr cause) = let (port, count, is, p) = by_wire P s cause in subst Q (sym is) (wire port count)
