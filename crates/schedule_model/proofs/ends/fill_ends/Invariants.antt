-- with the slots so far as the ends of the coflows of the last run, the ends are those of the slots so far
use Rattle.std.proofs.Common.{◌≡◌, ℕ, ◌<◌, cond, get_or, length, take}
use Rattle.coflow_units.specs.Completion.{completion, holds_coflow}
use Rattle.run_list.specs.Runs.{flows_before}
use Rattle.schedule_model.specs.RunList.{slots_in}
use Rattle.schedule_model.proofs.ends.fill_ends.Given as goal

abbrev pub invariant-loop-place : goal.invariant-loop-place
invariant-loop-place l = record {
  walk_runs : l.walk.runs ≡ l.runs;
  walk_place : l.walk.entered ≡ l.place;
  slot_is : l.slot ≡ length (slots_in (take l.place l.runs));
  ends_are : (k : ℕ) → k < length l.ends →
      cond (holds_coflow l.flows (flows_before l.runs l.place) k) l.slot (get_or l.ends k 0) ≡ completion l.flows (slots_in (take l.place l.runs)) k;
}
