-- What the loops over all coflows know so far.
use Rattle.std.proofs.Common.{◌≡◌, ℕ, ◌<◌, ◌≤◌, Bool, List, Option, None, Some}
use Rattle.std.specs.Prelude.{slice_index}
use Rattle.epochs.specs.Course.{ComesFirst, IsArrival, IsPresent, IsWaiting}

abbrev pub NoneOwesTo : List Bool → List Bool → List ℕ → ℕ → Type 0
NoneOwesTo registered withdrawn owed done = (c : ℕ) → c < done → IsPresent registered withdrawn c → slice_index owed c ≡ 0

abbrev pub AllOweTo : List Bool → List Bool → List ℕ → ℕ → Type 0
AllOweTo registered withdrawn owed done = (c : ℕ) → c < done → IsPresent registered withdrawn c → 0 < slice_index owed c

pub record WaitsFirstTo (arrivals : List ℕ) (registered : List Bool) (coflow done : ℕ) : Type 0 where
  pub below : coflow < done
  pub waits : IsWaiting arrivals registered coflow
  pub first : (c : ℕ) → c < done → IsWaiting arrivals registered c → ComesFirst arrivals coflow c

abbrev pub FirstWaitingTo : List ℕ → List Bool → ℕ → Option ℕ → Type 0
FirstWaitingTo arrivals registered done None = (c : ℕ) → c < done → IsWaiting arrivals registered c → ⊥
FirstWaitingTo arrivals registered done (Some coflow) = WaitsFirstTo arrivals registered coflow done

pub record NextArrivalTo (arrivals : List ℕ) (now time done : ℕ) : Type 0 where
  pub later : now < time
  pub arrival : IsArrival arrivals time
  pub first : (c : ℕ) → c < done → now < slice_index arrivals c → time ≤ slice_index arrivals c

abbrev pub LaterArrivalTo : List ℕ → ℕ → ℕ → Option ℕ → Type 0
LaterArrivalTo arrivals now done None = (c : ℕ) → c < done → slice_index arrivals c ≤ now
LaterArrivalTo arrivals now done (Some time) = NextArrivalTo arrivals now time done
