-- The record of the replay of one ranker: its publishings, its schedule, and the best released certificate.
use Rattle.std.specs.Prelude.{◌≡◌, ℕ, ◌==◌, List, [], ◌∷◌, Option, None, Some, find, map, reverse, slice_index}
use Rattle.coflow_units.specs.declared.fabric.Side.TheVariants.{Ingress}
use Rattle.coflow_units.specs.Certificate.{Entry, bound}
use Rattle.coflow_units.specs.Schedule.{IsRuns}
use Rattle.epochs.specs.declared.action.Action.TheVariants.{End}
use Rattle.flow_table.specs.Table.{instance_of}
use Rattle.journal.specs.Chosen.{the_ordering}
use Rattle.online_runs.specs.Input.{online_opening}
use Rattle.online_runs.specs.Value.{done_lines, place_line, release_line}
use Rattle.online_text.specs.declared.value.Epoch.{Epoch}
use Rattle.online_text.specs.declared.value.Online.{Online}
use Rattle.online_text.specs.Online.{IsOnline}
use Rattle.rankers.specs.Meaning.{Meaning}
use Rattle.release_bound.specs.declared.place.ReleasePlace.{ReleasePlace}
use Rattle.release_bound.specs.Best.{IsBestReleased}
use Rattle.schedule_model.specs.RunList.{pairs_of}
use Rattle.replays.specs.declared.record.Recorded.{Recorded}
use Rattle.replays.specs.declared.record.Recorded.TheVariants as recorded
use Rattle.replays.specs.declared.rows.Replayed.TheVariants.{Unfit}
use Rattle.replays.specs.declared.rows.ReplayRow.{ReplayRow}
use Rattle.replays.specs.Moments.{DoesNext, Input, IsMoment, Moment, Publishing}
use Rattle.replays.specs.Replayed.{cost_of_slots}
use Rattle.replays.specs.Reported.{IsReported}

-- the entry, or that of a coflow which is charged nothing
abbrev pub entry_or_none : ℕ → Option Entry → Entry
entry_or_none coflow (Some e) = e
entry_or_none coflow None = record { coflow = coflow; port = record { side = Ingress; number = 0 }; y = 0 }

-- what a certificate charges for a coflow
abbrev pub charge_of : List Entry → ℕ → Entry
charge_of entries coflow = entry_or_none coflow (find (λ (e : Entry). e.coflow == coflow) entries)

-- What is told of a publishing: the coflows of the line that it made, each with what the ordering certificate of what was
-- left charges for it, and the bound that this certificate proves.
abbrev pub epoch_told : List ℕ → Publishing → Epoch
epoch_told ids p = record {
  time = p.time;
  places = map (λ coflow. place_line ids (charge_of (the_ordering p.left) coflow)) p.line;
  bound = bound p.left.flows (the_ordering p.left);
}

-- The replay of the ranker ended: its publishings, its schedule with the completions of the coflows and the cost, and the
-- best of the released certificates of the table and the arrivals, from its last place to its first, with its total.
pub record IsRecord (x : Input) (ranker : Meaning) (o : Online) : Type 0 where
  pub moment : Moment
  pub reached : IsMoment x ranker moment
  pub ends : DoesNext x moment End
  pub epochs_are : o.epochs ≡ map (epoch_told x.table.ids) moment.publishings
  pub done_are : o.done ≡ done_lines (online_opening x.table x.weights) moment.slots
  pub cost_is : o.cost ≡ cost_of_slots x moment.slots
  pub places : List ReleasePlace
  pub best : IsBestReleased (instance_of x.table x.weights) (slice_index x.arrivals) places o.total
  pub release_is : o.release ≡ map (release_line x.table.ids) (reverse places)
  pub runs_are : IsRuns moment.slots (pairs_of o.runs)

-- the row says that an answer is no order
abbrev pub IsUnfitRow : ReplayRow → Type 0
IsUnfitRow row = (epoch : ℕ) × (place : ℕ) × (row.result ≡ Unfit epoch place)

-- what the replay of one ranker is recorded as: the record, or, where an answer is no order, the report of a bench that
-- has this ranker alone
abbrev pub IsRecorded : Input → Meaning → Recorded → Type 0
IsRecorded x ranker (recorded.Run o) = IsRecord x ranker o
IsRecorded x ranker (recorded.Unfit r) =
    IsReported x (ranker ∷ []) r × (row : ReplayRow) × (r.rows ≡ row ∷ []) × IsUnfitRow row

-- the text of a record can be read
abbrev pub HasForm : Recorded → Type 0
HasForm (recorded.Run o) = IsOnline o
HasForm (recorded.Unfit r) = Unit {0}
