-- the slots so far hold nobody early
use Rattle.std.proofs.Common.{◌≡◌, length, slice_index, take}
use Rattle.schedule_model.specs.RunList.{slots_in}
use Rattle.online_check.proofs.WaitingSteps.{NoneEarly}
use Rattle.online_check.proofs.early.first_early.Given as goal

abbrev pub invariant-loop-place : goal.invariant-loop-place
invariant-loop-place l = record {
  walk_runs : l.walk.runs ≡ l.runs;
  walk_place : l.walk.entered ≡ l.place;
  gone_are : l.gone ≡ length (slots_in (take l.place l.runs));
  none : NoneEarly l.flows (slice_index l.arrivals) (slots_in (take l.place l.runs));
}
