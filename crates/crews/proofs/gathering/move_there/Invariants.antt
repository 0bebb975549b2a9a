use Rattle.std.proofs.Common.{◌≡◌, ◌+◌, ◌≤◌, ◌++◌, length, reverse, vec_capacity}
use Rattle.crews.specs.Wires.{wires_of}
use Rattle.crews.proofs.gathering.move_there.Given as goal

abbrev pub invariant-loop-place : goal.invariant-loop-place
invariant-loop-place g l = record {
  whole : l.to.items ++ wires_of (reverse l.rest.items) ≡ l.fn.to.items ++ wires_of l.fn.from.items;
  room : length l.to.items + length l.rest.items ≤ vec_capacity l.to;
  kept : vec_capacity l.to ≡ vec_capacity l.fn.to;
}

abbrev pub decreases-loop-place : goal.decreases-loop-place
decreases-loop-place g l = goal.left-loop-place g l
