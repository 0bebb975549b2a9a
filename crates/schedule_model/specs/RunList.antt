-- The runs of a schedule as the program keeps them.
use Rattle.std.specs.Prelude.{◌≢◌, ℕ, ◌+◌, ◌≤◌, ◌<◌, List, All, length, map}
use Rattle.coflow_units.specs.declared.limits.TheConstants.{MAX_SLOT}
use Rattle.std.specs.List.{slice_index_or}
use Rattle.std.specs.List.Sorted.{IsStrictlyIncreasing}
use Rattle.coflow_units.specs.declared.plan.Run.{Run}
use Rattle.coflow_units.specs.Schedule.{slots_of}

-- each run as its length and the flow numbers of its slots
abbrev pub pairs_of : List Run → List (ℕ × List ℕ)
pairs_of runs = map (λ (r : Run). (r.length, r.flows)) runs

-- the slots of the runs, one after another
abbrev pub slots_in : List Run → List (List ℕ)
slots_in runs = slots_of (pairs_of runs)

-- each number in the slots is that of one of so many flows
abbrev pub NamesFlows : ℕ → List (List ℕ) → Type 0
NamesFlows flows slots = All (All (λ f. f < flows)) slots

-- No run is empty, the flow numbers of each run ascend, neighbours differ, and there are at most 2^41 - 1 slots.
pub record IsKept (runs : List Run) : Type 0 where
  pub some : All (λ (r : Run). 1 ≤ r.length) runs
  pub ascending : All (λ (r : Run). IsStrictlyIncreasing r.flows) runs
  pub maximal : (k : ℕ) (r : Run) → k + 1 < length runs →
      (slice_index_or runs k r).flows ≢ (slice_index_or runs (k + 1) r).flows
  pub short : length (slots_in runs) ≤ MAX_SLOT
