-- the units of the coflows so far
use Rattle.std.proofs.Common.{◌≡◌, ◌-◌, ◌^◌, min, take}
use Rattle.std.specs.Prelude.{sum_by}
use Rattle.coflow_units.specs.declared.trace.CoflowLine.{CoflowLine}
use Rattle.flow_table.specs.Units.{units_of_line}
use Rattle.flow_table.proofs.units.units_in_all.Given as goal

abbrev pub invariant-loop-line : goal.invariant-loop-line
invariant-loop-line l = l.total ≡ min (sum_by (λ (x : CoflowLine). units_of_line l.unit.megabytes x) (take l.line-index l.trace.coflows)) (2 ^ 64 - 1)
