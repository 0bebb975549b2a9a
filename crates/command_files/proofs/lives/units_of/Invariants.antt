-- the units of the flows so far
use Rattle.std.proofs.Common.{◌≡◌, ◌-◌, ◌^◌, min, take}
use Rattle.std.specs.Prelude.{sum_by}
use Rattle.coflow_units.specs.declared.fabric.Flow.{Flow}
use Rattle.command_files.proofs.lives.units_of.Given as goal

abbrev pub invariant-loop-flow : goal.invariant-loop-flow
invariant-loop-flow l = record { count : l.count ≡ min (sum_by (λ (f : Flow). f.units) (take l.flow-index l.table.flows)) (2 ^ 64 - 1) }
