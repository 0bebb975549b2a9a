-- the slots so far, whose numbers are all flows'
use Rattle.std.proofs.Common.{◌≡◌, length, take}
use Rattle.schedule_model.specs.RunList.{NamesFlows, slots_in}
use Rattle.schedule_model.proofs.strangers.find_stranger.Given as goal

abbrev pub invariant-loop-place : goal.invariant-loop-place
invariant-loop-place l = record {
  walk_runs : l.walk.runs ≡ l.runs;
  walk_place : l.walk.entered ≡ l.place;
  slot_is : l.slot ≡ length (slots_in (take l.place l.runs));
  names : NamesFlows (length l.flows) (slots_in (take l.place l.runs));
}
