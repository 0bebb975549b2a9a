-- What the value of a closed journal tells.
use Rattle.std.specs.Prelude.{◌≡◌, List, Some, map}
use Rattle.std.specs.List.{range_with_len}
use Rattle.coflow_units.specs.Schedule.{IsRuns}
use Rattle.journal.specs.declared.command.Entry.{Entry}
use Rattle.journal.specs.declared.opening.Opening.{Opening}
use Rattle.journal.specs.Closed.{schedule_of}
use Rattle.journal.specs.Journal.{version_of}
use Rattle.live_model.specs.Printed.{run_of, told_entry, told_order}
use Rattle.live_text.specs.declared.value.Live.{Live}
use Rattle.live_text.specs.declared.value.PullLine.{PullLine}

-- the value has the entries of the journal by their words, the orders of all versions from 1 on, these lines of pulls,
-- and the runs of the schedule
pub record IsValueOf (o : Opening) (journal : List Entry) (lines : List PullLine) (live : Live) : Type 0 where
  pub entries : map (told_entry o) journal ≡ map Some live.entries
  pub orders : live.orders ≡ map (told_order o journal) (range_with_len 1 (version_of journal))
  pub pulls_are : live.pulls ≡ lines
  pub runs : IsRuns (schedule_of o journal) (map run_of live.runs)
