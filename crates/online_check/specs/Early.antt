-- Slots that hold a coflow before it has come. Slots count from 1, and arrivals in slots: a coflow with arrival a may be
-- served from slot a + 1 on.
use Rattle.std.specs.Prelude.{◌≡◌, ℕ, ◌<◌, ◌≤◌, ◌-◌, ◌⊎◌, true, List, [], length}
use Rattle.std.specs.List.{slice_index_or}
use Rattle.coflow_units.specs.declared.fabric.Flow.{Flow}
use Rattle.coflow_units.specs.Completion.{holds_coflow}

-- a slot at or before the coflow's arrival holds a flow of it
pub record IsEarly (flows : List Flow) (arrival : ℕ → ℕ) (slots : List (List ℕ)) (slot coflow : ℕ) : Type 0 where
  pub counted : 1 ≤ slot
  pub inside : slot ≤ length slots
  pub by_arrival : slot ≤ arrival coflow
  pub has : holds_coflow flows (slice_index_or slots (slot - 1) []) coflow ≡ true

-- the slot is the first that holds a coflow early, and the coflow is the least such one in it
pub record IsFirstEarly (flows : List Flow) (arrival : ℕ → ℕ) (slots : List (List ℕ)) (slot coflow : ℕ) : Type 0 where
  pub early : IsEarly flows arrival slots slot coflow
  pub first : (t other : ℕ) → IsEarly flows arrival slots t other → (slot < t) ⊎ ((slot ≡ t) × (coflow ≤ other))
