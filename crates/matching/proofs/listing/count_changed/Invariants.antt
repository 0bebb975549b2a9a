-- at most one change at each place so far
use Rattle.std.proofs.Common.{◌≤◌, length}
use Rattle.matching.proofs.listing.count_changed.Given as goal

abbrev pub invariant-loop-rank : goal.invariant-loop-rank
invariant-loop-rank l = l.changed ≤ length l.yielded
