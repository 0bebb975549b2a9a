-- Units: a reducer's megabytes are cut into units, and its mappers share them.
use Rattle.std.specs.Prelude.{ℕ, ◌+◌, ◌*◌, ◌/◌, ◌%◌, if◌then◌else◌, nat_lt, sum_by}
use Rattle.std.specs.Int.{div_ceil}
use Rattle.coflow_units.specs.declared.trace.CoflowLine.{CoflowLine}
use Rattle.coflow_units.specs.declared.trace.Reducer.{Reducer}
use Rattle.coflow_units.specs.declared.trace.Trace.{Trace}

-- the units of a reducer, rounded up, where a unit has so many megabytes
abbrev pub units_of_reducer : ℕ → Reducer → ℕ
units_of_reducer unit r = div_ceil r.millionths (unit * 1000000)

-- what the mapper at a place sends of so many units: all mappers send the same, and the first ones send one more where
-- that leaves a rest
abbrev pub share : ℕ → ℕ → ℕ → ℕ
share mappers units place = units / mappers + (if nat_lt place (units % mappers) then 1 else 0)

-- the units of all reducers of a coflow
abbrev pub units_of_line : ℕ → CoflowLine → ℕ
units_of_line unit x = sum_by (λ (r : Reducer). units_of_reducer unit r) x.reducers

-- the units of all coflows
abbrev pub units_in_all : Trace → ℕ → ℕ
units_in_all t unit = sum_by (λ (x : CoflowLine). units_of_line unit x) t.coflows
