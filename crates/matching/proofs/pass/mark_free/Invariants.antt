-- the bits of the ports so far are set where nothing stands, and no later bit is
use Rattle.std.proofs.Common.{◌≡◌, length}
use Rattle.matching.proofs.FreeSteps.{IsFreeSoFar}
use Rattle.matching.proofs.pass.mark_free.Given as goal

abbrev pub invariant-loop-port : goal.invariant-loop-port
invariant-loop-port l = record {
  len : length l.free ≡ length l.fn.free;
  so_far : IsFreeSoFar l.at l.free l.port;
}
