-- Flows that stand coflow by coflow, as a table of flows has them.
use Rattle.std.specs.Prelude.{◌≡◌, ℕ, ◌<◌, ◌≤◌, ◌+◌, List, All, length}
use Rattle.std.specs.List.{slice_index}
use Rattle.coflow_units.specs.declared.fabric.Flow.{Flow}
use Rattle.coflow_units.specs.Flows.{coflow_of}

-- The flows of the coflow c are those from the start of c up to the start of c + 1, and each flow is of a coflow that
-- has both.
pub record IsStarts (flows : List Flow) (starts : List ℕ) : Type 0 where
  pub within : All (λ s. s ≤ length flows) starts
  pub own : (c f : ℕ) → c + 1 < length starts → slice_index starts c ≤ f → f < slice_index starts (c + 1) →
      coflow_of flows f ≡ c
  pub all : (f : ℕ) → f < length flows →
      (coflow_of flows f + 1 < length starts) × (slice_index starts (coflow_of flows f) ≤ f) ×
      (f < slice_index starts (coflow_of flows f + 1))
