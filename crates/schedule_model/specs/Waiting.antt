-- Flows that wait while a port of theirs serves a coflow no later in the order.
use Rattle.std.specs.Prelude.{◌≡◌, ℕ, ◌≤◌, List, Contains}
use Rattle.std.specs.List.{slice_index_or}
use Rattle.coflow_units.specs.declared.fabric.Flow.{Flow}
use Rattle.coflow_units.specs.declared.fabric.Side.{Side}
use Rattle.schedule_model.specs.Repeat.{end_number}

-- a flow of the slot uses the port of this number on the side, and its coflow has at most this place; the places are
-- those of the flows
abbrev pub ServesBy : List Flow → List ℕ → Side → List ℕ → ℕ → ℕ → Type 0
ServesBy flows places side slot number place =
    (g : ℕ) × Contains slot g × (end_number flows side g ≡ number) × (slice_index_or places g 0 ≤ place)
