use Rattle.std.proofs.Common.{◌≡◌, ◌≤◌, length, take}
use Rattle.std.specs.Prelude.{vec_capacity}
use Rattle.std.specs.List.{filter}
use Rattle.master_core.specs.Attendance.{marked}
use Rattle.master_core.specs.Published.{ranked}
use Rattle.master_core.proofs.line.Line.add_ranked.Given as goal

abbrev pub invariant-loop-place : goal.invariant-loop-place
invariant-loop-place l = record {
  line : l.self-inside.coflows.items ≡ filter (marked l.roster.present) (take l.place-index (ranked l.places));
  few : length l.self-inside.coflows.items ≤ l.place-index;
  room : vec_capacity l.self-inside.coflows ≡ l.fn.self.room;
}
