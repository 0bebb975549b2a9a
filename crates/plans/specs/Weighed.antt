-- Tables with weights.
use Rattle.std.specs.Prelude.{◌≡◌, ℕ, ◌≤◌, List, All, length}
use Rattle.coflow_units.specs.declared.limits.TheConstants.{MAX_WEIGHT}
use Rattle.flow_table.specs.Table.{IsTable, TableFacts}

-- the table is within its limits, and each of its coflows has a weight from 1 to 2^32
pub record IsWeighed (t : TableFacts) (weights : List ℕ) : Type 0 where
  pub table : IsTable t
  pub count : length weights ≡ length t.ids
  pub least : All (λ w. 1 ≤ w) weights
  pub most : All (λ w. w ≤ MAX_WEIGHT) weights
