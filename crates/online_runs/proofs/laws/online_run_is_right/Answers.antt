use Rattle.std.proofs.Common.{slice_index}
use Rattle.flow_table.specs.Table.{instance_of}
use Rattle.online_check.specs.declared.verdict.OnlineVerdict.TheVariants.{Yes}
use Rattle.release_bound.specs.declared.threshold.Threshold.TheVariants.{One}
use Rattle.online_runs.proofs.Right.{is_right}
use Rattle.online_runs.proofs.laws.online_run_is_right.Goals as goal

pub returns-clause-sound : goal.returns-clause-sound
returns-clause-sound c = λ o arrivals every x i once h.
    is_right o arrivals every x i once h (c.released_ordering_is_feasible.ensures.feasible One (instance_of o.table o.weights) (slice_index arrivals) h.places h.ordering)

pub returns-clause-total : goal.returns-clause-total
returns-clause-total c = λ o arrivals every x slots i once h released.
    c.yes_bounds_released_schedules.ensures.total (instance_of o.table o.weights) (slice_index arrivals) o.table.ids x slots
    (is_right o arrivals every x i once h (c.released_ordering_is_feasible.ensures.feasible One (instance_of o.table o.weights) (slice_index arrivals) h.places h.ordering))
    released

pub returns-clause-verdict : goal.returns-clause-verdict
returns-clause-verdict c = λ o arrivals every x verdict i once h is.
    c.online_verdict_is_one.ensures o.table o.weights (slice_index arrivals) x verdict Yes is
    (is_right o arrivals every x i once h (c.released_ordering_is_feasible.ensures.feasible One (instance_of o.table o.weights) (slice_index arrivals) h.places h.ordering))
