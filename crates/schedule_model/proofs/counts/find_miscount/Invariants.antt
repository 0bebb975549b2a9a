-- with the slots since the flows of the last run came, the counts are those of the slots so far
use Rattle.std.proofs.Common.{◌≡◌, ◌≤◌, ◌+◌, ◌-◌, ℕ, cond, get_or, length, take}
use Rattle.coflow_units.specs.Schedule.{holds, times}
use Rattle.run_list.specs.Runs.{flows_before}
use Rattle.schedule_model.specs.RunList.{slots_in}
use Rattle.schedule_model.proofs.counts.find_miscount.Given as goal

abbrev pub invariant-loop-place : goal.invariant-loop-place
invariant-loop-place l = record {
  walk_runs : l.walk.runs ≡ l.runs;
  walk_place : l.walk.entered ≡ l.place;
  slot_is : l.slot ≡ length (slots_in (take l.place l.runs));
  count : length l.counts.items ≡ length l.flows;
  since_count : length l.since.items ≡ length l.flows;
  past : (f : ℕ) → get_or l.since.items f 0 ≤ l.slot;
  times_are : (f : ℕ) → get_or l.counts.items f 0 + cond (holds (flows_before l.runs l.place) f) (l.slot - get_or l.since.items f 0) 0
      ≡ times (slots_in (take l.place l.runs)) f;
}
