-- the units of the reducers so far
use Rattle.std.proofs.Common.{◌≡◌, ◌-◌, ◌^◌, min, take}
use Rattle.std.specs.Prelude.{sum_by}
use Rattle.coflow_units.specs.declared.trace.Reducer.{Reducer}
use Rattle.flow_table.specs.Units.{units_of_reducer}
use Rattle.flow_table.proofs.units.units_of_line.Given as goal

abbrev pub invariant-loop-reducer : goal.invariant-loop-reducer
invariant-loop-reducer l = l.total ≡ min (sum_by (λ (r : Reducer). units_of_reducer l.unit.megabytes r) (take l.reducer-index l.line.reducers)) (2 ^ 64 - 1)
