-- What is reported of the replays of a bench.
use Rattle.std.specs.Prelude.{◌≡◌, ℕ, ◌≤◌, List, All, slice_index}
use Rattle.coflow_units.specs.Completion.{cost}
use Rattle.flow_table.specs.Table.{instance_of}
use Rattle.rankers.specs.Meaning.{Meaning}
use Rattle.release_bound.specs.declared.place.ReleasePlace.{ReleasePlace}
use Rattle.release_bound.specs.Best.{IsBestReleased, arrivals_cost}
use Rattle.release_bound.specs.Release.{IsReleased}
use Rattle.replays.specs.declared.rows.Replayed.{Replayed}
use Rattle.replays.specs.declared.rows.Replayed.TheVariants.{Cost, Unfit}
use Rattle.replays.specs.declared.rows.ReplayRow.{ReplayRow}
use Rattle.replays.specs.declared.writing.ReplayReport.{ReplayReport}
use Rattle.replays.specs.Moments.{Input}
use Rattle.replays.specs.Replayed.{AreRowsFrom, IsReplay}

-- the greatest total of the released certificates, what arrivals cost, and a row for each ranker of the bench, from its own
-- replay alone
pub record IsReported (x : Input) (bench : List Meaning) (r : ReplayReport) : Type 0 where
  pub places : List ReleasePlace
  pub total : IsBestReleased (instance_of x.table x.weights) (slice_index x.arrivals) places r.total
  pub arrivals : r.arrivals ≡ arrivals_cost (instance_of x.table x.weights) (slice_index x.arrivals)
  pub rows : AreRowsFrom x 1 bench r.rows

-- what a replay comes to is a cost of at least so much, or no cost
abbrev pub CostsAtLeast : ℕ → Replayed → Type 0
CostsAtLeast least (Cost total) = least ≤ total
CostsAtLeast least (Unfit epoch place) = Unit {0}

-- Each replay serves all units, and nobody before its arrival. What arrivals cost is at most the total, which is at most the
-- cost of every schedule that does so, and so at most each cost of a row.
pub record IsBounded (x : Input) (r : ReplayReport) : Type 0 where
  pub released : (ranker : Meaning) (slots : List (List ℕ)) → IsReplay x ranker slots →
      IsReleased x.table.flows (slice_index x.arrivals) slots
  pub arrivals : r.arrivals ≤ r.total
  pub schedules : (slots : List (List ℕ)) → IsReleased x.table.flows (slice_index x.arrivals) slots →
      r.total ≤ cost x.table.flows (slice_index x.weights) (instance_of x.table x.weights).coflows slots
  pub rows : All (λ (row : ReplayRow). CostsAtLeast r.total row.result) r.rows
