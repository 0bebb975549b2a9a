use Rattle.std.proofs.Common.{reverse}
use Rattle.std.specs.Prelude.{slice_index}
use Rattle.flow_table.specs.Table.{instance_of}
use Rattle.release_bound.proofs.Thresholds.{IsBestUpTo}
use Rattle.release_bound.proofs.best.best_released.Given as goal

abbrev pub invariant-loop-by : goal.invariant-loop-by
invariant-loop-by l = IsBestUpTo l.by-index (instance_of l.table l.weights) (slice_index l.arrivals) (reverse l.best.places.items) l.best.total
