use Rattle.std.proofs.Common.{slice_index}
use Rattle.flow_table.specs.Table.{instance_of}
use Rattle.replays.proofs.laws.totals_bound_replays.Goals as goal

pub returns : goal.returns
returns c = λ x ranker slots places total input replay best.
    c.best_is_bound.ensures.bound (instance_of x.table x.weights) (slice_index x.arrivals) places total slots best
    (c.replays_are_released.ensures x ranker slots input replay)
