-- What the text of an online run says.
use Rattle.std.specs.Prelude.{◌≡◌, ℕ, if◌then◌else◌, List, [], ◌∷◌, ◌++◌, length, map, reverse, slice_index}
use Rattle.std.specs.List.{range_with_len}
use Rattle.coflow_units.specs.Certificate.{bound, Entry as Charge}
use Rattle.coflow_units.specs.Completion.{completion, cost}
use Rattle.coflow_units.specs.Flows.{Instance}
use Rattle.coflow_units.specs.Schedule.{IsRuns}
use Rattle.flow_table.specs.Table.{instance_of}
use Rattle.schedule_model.specs.RunList.{pairs_of}
use Rattle.release_bound.specs.declared.place.ReleasePlace.{ReleasePlace}
use Rattle.release_bound.specs.Release.{released_total}
use Rattle.release_bound.specs.ReleaseOrder.{IsReleasedOrdering}
use Rattle.online_text.specs.declared.value.DoneLine.{DoneLine}
use Rattle.online_text.specs.declared.value.Epoch.{Epoch}
use Rattle.online_text.specs.declared.value.Online.{Online}
use Rattle.online_text.specs.declared.value.OnlinePlace.{OnlinePlace}
use Rattle.online_text.specs.declared.value.ReleaseLine.{ReleaseLine}
use Rattle.journal.specs.declared.command.Entry.{Entry}
use Rattle.journal.specs.declared.opening.Opening.{Opening}
use Rattle.journal.specs.Chosen.{the_ordering}
use Rattle.journal.specs.Closed.{schedule_of}
use Rattle.journal.specs.Journal.{is_version, left_at}
use Rattle.online_runs.specs.Deeds.{IsOnlineRun, time_of}

-- ---- the publishings

-- what a line says of a place of an order: the coflow's id, and what the place charges
abbrev pub place_line : List ℕ → Charge → OnlinePlace
place_line ids e = record { id = slice_index ids e.coflow; port = e.port; y = e.y }

-- a publishing at this time: the places of the ordering certificate of what is left, from place 1 on, and the bound that
-- it proves
abbrev pub epoch_of : List ℕ → ℕ → Instance → Epoch
epoch_of ids time left = record {
  time = time;
  places = map (place_line ids) (reverse (the_ordering left));
  bound = bound left.flows (the_ordering left);
}

-- a publishing after the journal
abbrev pub epoch_at : Opening → List Entry → Epoch
epoch_at o before = epoch_of o.table.ids (time_of o before) (left_at o before)

-- the publishings among these entries, each with what is left before it; the entries come after those before
abbrev pub epochs_from : Opening → List Entry → List Entry → List Epoch
epochs_from o before [] = []
epochs_from o before (e ∷ es) =
    (if is_version e.reply then epoch_at o before ∷ [] else []) ++ epochs_from o (before ++ e ∷ []) es

-- the publishings of a journal
abbrev pub epochs_of : Opening → List Entry → List Epoch
epochs_of o journal = epochs_from o [] journal

-- ---- the completions and the released certificate

-- the line of a completion
abbrev pub done_line : Opening → List (List ℕ) → ℕ → DoneLine
done_line o slots coflow = record {
  id = slice_index o.table.ids coflow;
  slot = completion o.table.flows slots coflow;
}

-- the lines of all coflows, by number
abbrev pub done_lines : Opening → List (List ℕ) → List DoneLine
done_lines o slots = map (done_line o slots) (range_with_len 0 (length o.table.ids))

-- what a line says of a place of a released certificate
abbrev pub release_line : List ℕ → ReleasePlace → ReleaseLine
release_line ids r = record { id = slice_index ids r.coflow; port = r.port; y = r.y; z = r.z }

-- ---- the whole

-- What an online run over the table of the opening says: its publishings; the schedule of its closed runs, with the
-- completions of the coflows and the cost; and the released certificate of the table and the arrivals, which stands here
-- from its last place to its first, with its total.
pub record IsOnlineOf (o : Opening) (arrivals : List ℕ) (every : ℕ) (x : Online) : Type 0 where
  pub journal : List Entry
  pub run : IsOnlineRun o arrivals every journal
  pub epochs_are : x.epochs ≡ epochs_of o journal
  pub done_are : x.done ≡ done_lines o (schedule_of o journal)
  pub cost_is : x.cost
      ≡ cost o.table.flows (slice_index o.weights) (range_with_len 0 (length o.table.ids)) (schedule_of o journal)
  pub places : List ReleasePlace
  pub ordering : IsReleasedOrdering (instance_of o.table o.weights) (slice_index arrivals) places
  pub release_is : x.release ≡ map (release_line o.table.ids) (reverse places)
  pub total_is : x.total ≡ released_total o.table.flows (slice_index arrivals) o.table.ports places
  pub runs_are : IsRuns (schedule_of o journal) (pairs_of x.runs)
