-- What is kept of an online run between its actions.
use Rattle.std.specs.Prelude.{◌≡◌, ℕ, ◌<◌, ◌&&◌, not, List, length, slice_index}
use Rattle.epochs.specs.Course.{Course, is_marked}
use Rattle.journal.specs.declared.command.Entry.{Entry}
use Rattle.journal.specs.declared.opening.Opening.{Opening}
use Rattle.journal.specs.Closed.{schedule_of}
use Rattle.journal.specs.Fold.{state_of}
use Rattle.journal.specs.State.{owed}
use Rattle.online_runs.specs.Deeds.{owed_after, time_of}
use Rattle.online_runs.specs.Value.{epochs_of}
use Rattle.online_runs.specs.declared.progress.Progress.{Progress}

-- what is kept is what the journal and the course tell
pub record TellsRun (o : Opening) (s : Course) (j : List Entry) (p : Progress) : Type 0 where
  pub time_is : p.time ≡ time_of o j
  pub each_left : length p.left.items ≡ length o.table.flows
  pub left_is : (f : ℕ) → f < length o.table.flows → slice_index p.left.items f ≡ owed o (state_of o j) f
  pub owed_is : p.owed.items ≡ owed_after o j
  pub each_present : length p.present.items ≡ length o.table.ids
  pub present_is : (c : ℕ) →
      is_marked p.present.items c ≡ (is_marked s.registered c && not (is_marked s.withdrawn c))
  pub epochs_are : p.epochs.items ≡ epochs_of o j
  pub schedule_is : p.schedule ≡ schedule_of o j
