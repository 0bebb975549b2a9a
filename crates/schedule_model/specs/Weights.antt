-- Weights as a list, one for each coflow by number.
use Rattle.std.specs.Prelude.{ℕ, List, length}
use Rattle.std.specs.List.{range_with_len, slice_index_or}
use Rattle.coflow_units.specs.declared.fabric.Flow.{Flow}
use Rattle.coflow_units.specs.Completion.{cost}

-- the weight of the coflow; a number past the end has 0
abbrev pub weight_of : List ℕ → ℕ → ℕ
weight_of weights coflow = slice_index_or weights coflow 0

-- the sum of weight times completion over the coflows that have a weight
abbrev pub weighted_cost : List Flow → List ℕ → List (List ℕ) → ℕ
weighted_cost flows weights slots = cost flows (weight_of weights) (range_with_len 0 (length weights)) slots
