use Rattle.std.proofs.Common.{slice_index}
use Rattle.flow_table.specs.Table.{instance_of}
use Rattle.replays.specs.declared.rows.Replayed.TheVariants.{Cost}
use Rattle.replays.proofs.RightRecords.{best_one, replay_of}
use Rattle.replays.proofs.laws.records_are_as_replays.Goals as goal

pub returns-clause-cost : goal.returns-clause-cost
returns-clause-cost c = λ x ranker o result input h replayed.
    c.replays_are_one.ensures.one x ranker result (Cost o.cost) input replayed (h.moment.slots, replay_of x ranker o h, h.cost_is)

pub returns-clause-total : goal.returns-clause-total
returns-clause-total c = λ x ranker bench o r input h reported.
    best_one c.released_ordering_is_one.ensures (instance_of x.table x.weights) (slice_index x.arrivals) reported.places h.places r.total o.total reported.total h.best
