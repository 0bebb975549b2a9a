-- A schedule is a list of slots, each a list of flow numbers.
use Rattle.std.specs.Prelude.{◌≡◌, ◌≢◌, ℕ, ◌<◌, ◌≤◌, ◌+◌, ◌==◌, Bool, List, All, Contains, length, count_by, replicate}
use Rattle.std.specs.List.{list_any, slice_index_or, flat_map}
use Rattle.std.specs.List.Sorted.{IsStrictlyIncreasing}
use Rattle.coflow_units.specs.declared.fabric.Flow.{Flow}
use Rattle.coflow_units.specs.Flows.{units_of, SharesPort}

-- the flow stands in the slot
abbrev pub holds : List ℕ → ℕ → Bool
holds slot f = list_any (λ g. g == f) slot

-- in how many slots the flow stands
abbrev pub times : List (List ℕ) → ℕ → ℕ
times slots f = count_by (λ slot. holds slot f) slots

-- the flow numbers ascend, each is a flow's, and flows that share a port are one flow
pub record IsClear (flows : List Flow) (slot : List ℕ) : Type 0 where
  pub ascending : IsStrictlyIncreasing slot
  pub flow : All (λ f. f < length flows) slot
  pub apart : (f g : ℕ) → Contains slot f → Contains slot g → SharesPort flows f g → f ≡ g

-- each port carries at most one unit in each slot, and each flow stands in as many slots as it has units
pub record IsValid (flows : List Flow) (slots : List (List ℕ)) : Type 0 where
  pub clear : All (IsClear flows) slots
  pub served : (f : ℕ) → f < length flows → times slots f ≡ units_of flows f

-- the slots of a list of runs, each a length and the flow numbers of its slots
abbrev pub slots_of : List (ℕ × List ℕ) → List (List ℕ)
slots_of runs = flat_map (λ r. replicate r.0 r.1) runs

-- the runs of equal slots of a schedule: no run is empty, and neighbours differ
pub record IsRuns (slots : List (List ℕ)) (runs : List (ℕ × List ℕ)) : Type 0 where
  pub same : slots_of runs ≡ slots
  pub lengths : All (λ r. 1 ≤ r.0) runs
  pub maximal : (k : ℕ) (r : ℕ × List ℕ) → k + 1 < length runs →
      (slice_index_or runs k r).1 ≢ (slice_index_or runs (k + 1) r).1
