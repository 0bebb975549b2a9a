-- What a report must meet.
use Rattle.std.specs.Prelude.{◌≡◌, ◌≢◌, ℕ, ◌+◌, ◌<◌, ◌≤◌, ◌^◌, List, Option, Some, None, All, length, sum_by}
use Rattle.coflow_units.specs.declared.limits.TheConstants.{MAX_SLOT, MAX_WEIGHT}
use Rattle.std.specs.List.{slice_index_or}
use Rattle.std.specs.List.Sorted.{IsStrictlyIncreasing}
use Rattle.coflow_units.specs.declared.plan.Run.{Run}
use Rattle.report_text.specs.declared.value.PlaceLine.{PlaceLine}
use Rattle.report_text.specs.declared.value.Report.{Report}

-- the fact holds of what the option has, if it has something
abbrev pub ForEach : {X : Type 0} → (X → Type 0) → Option X → Type 0
ForEach fact (Some x) = fact x
ForEach fact None = Unit {0}

-- there is a weight for each place, or no weights at all
abbrev pub HasWeights : Report → Type 0
HasWeights r = ForEach (λ (weights : List ℕ). length weights ≡ length r.places) r.weights

-- the weights are from 1 to 2^32
abbrev pub HasWeightsInRange : Report → Type 0
HasWeightsInRange r = ForEach (All (λ w. (1 ≤ w) × (w ≤ MAX_WEIGHT))) r.weights

-- Weights are in range and one for each place. Runs have slots, at most 2^41 - 1 together. The flows of a run ascend,
-- and neighbouring runs differ in their flows.
pub record IsReport (r : Report) : Type 0 where
  pub weight_each : HasWeights r
  pub weight_range : HasWeightsInRange r
  pub lengths : All (λ (run : Run). 1 ≤ run.length) r.runs
  pub few_slots : sum_by (λ (run : Run). run.length) r.runs ≤ MAX_SLOT
  pub ascending : All (λ (run : Run). IsStrictlyIncreasing run.flows) r.runs
  pub maximal : (k : ℕ) (d : Run) → k + 1 < length r.runs →
      (slice_index_or r.runs k d).flows ≢ (slice_index_or r.runs (k + 1) d).flows

-- the numbers of a place line fit their types
pub record IsSmallPlace (p : PlaceLine) : Type 0 where
  pub id : p.id < 2 ^ 32
  pub port : p.port.number < 2 ^ 32
  pub y : p.y < 2 ^ 128
  pub done : p.done < 2 ^ 64

-- each number of the report fits its type, and places are counted below 2^128; the lengths and the weights need no word
-- here
pub record HasSmallNumbers (r : Report) : Type 0 where
  pub count : length r.places < 2 ^ 128
  pub places : All IsSmallPlace r.places
  pub bound : r.bound < 2 ^ 128
  pub slack : r.slack < 2 ^ 128
  pub cost : r.cost < 2 ^ 128
  pub flows : All (λ (run : Run). All (λ f. f < 2 ^ 32) run.flows) r.runs
