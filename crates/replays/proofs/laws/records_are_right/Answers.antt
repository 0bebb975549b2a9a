use Rattle.std.proofs.Common.{slice_index}
use Rattle.flow_table.specs.Table.{instance_of}
use Rattle.online_check.specs.declared.verdict.OnlineVerdict.TheVariants.{Yes}
use Rattle.replays.proofs.RightRecords.{is_sound}
use Rattle.replays.proofs.laws.records_are_right.Goals as goal

pub returns-clause-sound : goal.returns-clause-sound
returns-clause-sound c = λ x ranker o input once h.
    is_sound x ranker o input once h
    (c.released_ordering_is_feasible.ensures.feasible h.best.by (instance_of x.table x.weights) (slice_index x.arrivals) h.places h.best.certificate)

pub returns-clause-verdict : goal.returns-clause-verdict
returns-clause-verdict c = λ x ranker o verdict input once h is.
    c.online_verdict_is_one.ensures x.table x.weights (slice_index x.arrivals) o verdict Yes is
    (is_sound x ranker o input once h
    (c.released_ordering_is_feasible.ensures.feasible h.best.by (instance_of x.table x.weights) (slice_index x.arrivals) h.places h.best.certificate))

pub returns-clause-total : goal.returns-clause-total
returns-clause-total c = λ x ranker o slots input h released.
    c.best_is_bound.ensures.bound (instance_of x.table x.weights) (slice_index x.arrivals) h.places o.total slots h.best released
