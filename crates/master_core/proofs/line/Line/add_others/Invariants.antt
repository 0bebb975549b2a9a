use Rattle.std.proofs.Common.{◌≡◌, ◌≤◌, ◌+◌, ◌++◌, length, take}
use Rattle.std.specs.Prelude.{vec_capacity}
use Rattle.std.specs.List.{filter}
use Rattle.master_core.specs.Published.{ranked}
use Rattle.master_core.specs.Waiting.{waits}
use Rattle.master_core.proofs.line.Line.add_others.Given as goal

abbrev pub invariant-loop-coflow : goal.invariant-loop-coflow
invariant-loop-coflow l = record {
  line : l.self-inside.coflows.items ≡ l.fn.self.coflows ++ filter (waits (ranked l.orders.places) l.roster.present) (take l.coflow-index l.joined);
  few : length l.self-inside.coflows.items ≤ length l.fn.self.coflows + l.coflow-index;
  room : vec_capacity l.self-inside.coflows ≡ l.fn.self.room;
}
