-- What coflows owe beside what their flows owe.
use Rattle.std.specs.Prelude.{◌≡◌, ℕ, ◌<◌, ◌==◌, if◌then◌else◌, List, length, slice_index, sum_by}
use Rattle.std.specs.List.{range_with_len}
use Rattle.coflow_units.specs.declared.fabric.Flow.{Flow}
use Rattle.coflow_units.specs.Flows.{coflow_of}

-- the units that the flows of the coflow have left
abbrev pub left_of : List Flow → List ℕ → ℕ → ℕ
left_of flows left coflow =
    sum_by (λ f. if coflow_of flows f == coflow then slice_index left f else 0) (range_with_len 0 (length flows))

-- there is a number for each flow, and each coflow owes what its flows have left
pub record IsTallied (flows : List Flow) (left owed : List ℕ) : Type 0 where
  pub each_flow : length left ≡ length flows
  pub each_coflow : (c : ℕ) → c < length owed → slice_index owed c ≡ left_of flows left c
