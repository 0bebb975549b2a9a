-- the sizes of the flows so far
use Rattle.std.proofs.Common.{◌≡◌, take}
use Rattle.std.specs.Prelude.{sum_by}
use Rattle.coflow_units.specs.declared.fabric.Flow.{Flow}
use Rattle.coflow_stats.specs.Finished.{IsLongest}
use Rattle.coflow_stats.proofs.finished.sizes_of.Given as goal

abbrev pub invariant-loop-flow : goal.invariant-loop-flow
invariant-loop-flow l = record {
  units_are : l.units ≡ sum_by (λ (x : Flow). x.units) (take l.flow-index l.flows);
  longest_is : IsLongest (take l.flow-index l.flows) l.longest;
}
