-- the runs so far have the same slots
use Rattle.std.proofs.Common.{◌≡◌, length, take}
use Rattle.schedule_model.specs.RunList.{slots_in}
use Rattle.journal_audit.proofs.parts.first_parted_slot.Given as goal

abbrev pub invariant-loop-index : goal.invariant-loop-index
invariant-loop-index l = record {
  stated_runs : l.stated_walk.runs ≡ l.stated;
  stated_place : l.stated_walk.entered ≡ l._index;
  real_runs : l.real_walk.runs ≡ l.real;
  real_place : l.real_walk.entered ≡ l._index;
  passed_is : l.passed ≡ length (slots_in (take l._index l.stated));
  same : slots_in (take l._index l.stated) ≡ slots_in (take l._index l.real);
}
