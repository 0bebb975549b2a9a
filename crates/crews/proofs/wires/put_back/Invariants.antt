use Rattle.std.proofs.Common.{◌≡◌, vec_capacity}
use Rattle.crews.proofs.Taking.{PutSoFar}
use Rattle.crews.proofs.wires.put_back.Given as goal

abbrev pub invariant-loop-outlet : goal.invariant-loop-outlet
invariant-loop-outlet g l = record {
  put : PutSoFar l.fn.wires l.wires l.fn.outlets.items l.outlets.items;
  room : vec_capacity l.outlets ≡ vec_capacity l.fn.outlets;
}

abbrev pub decreases-loop-outlet : goal.decreases-loop-outlet
decreases-loop-outlet g l = goal.left-loop-outlet g l
