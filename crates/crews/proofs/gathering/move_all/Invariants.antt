use Rattle.std.proofs.Common.{◌≡◌, ◌+◌, ◌≤◌, ◌++◌, Some, length, map, reverse, vec_capacity}
use Rattle.crews.proofs.gathering.move_all.Given as goal

abbrev pub invariant-loop-wire : goal.invariant-loop-wire
invariant-loop-wire g l = record {
  whole : l.to.items ++ map (λ w. Some w) (reverse l.from.items) ≡ map (λ w. Some w) l.fn.from.items;
  room : length l.to.items + length l.from.items ≤ vec_capacity l.to;
  kept : vec_capacity l.from ≡ vec_capacity l.fn.from;
}

abbrev pub decreases-loop-wire : goal.decreases-loop-wire
decreases-loop-wire g l = goal.left-loop-wire g l
