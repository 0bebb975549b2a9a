-- Coflows that are served though they have not come.
use Rattle.std.specs.Prelude.{◌≡◌, ℕ, ◌<◌, List, Contains}
use Rattle.coflow_units.specs.declared.fabric.Flow.{Flow}
use Rattle.coflow_units.specs.Flows.{coflow_of}

-- a flow of the coflow is among these, and the coflow arrives when more slots than these are gone
pub record HoldsWaiting (flows : List Flow) (arrival : ℕ → ℕ) (gone : ℕ) (numbers : List ℕ) (coflow : ℕ) : Type 0 where
  pub flow : ℕ
  pub has : Contains numbers flow
  pub of_coflow : coflow_of flows flow ≡ coflow
  pub waits : gone < arrival coflow
