use Rattle.std.proofs.Common.{◌≡◌, length, ◌-◌, ◌≤◌}
use Rattle.std.specs.Prelude.{take}
use Rattle.outside.proofs.SoFar.{TakenSoFar}
use Rattle.outside.proofs.writing.write_all.Given as goal

abbrev pub invariant-loop-written : goal.invariant-loop-written
invariant-loop-written g l = record {
  within : l.written ≤ length l.text;
  still : g.K.Sink.faults l.sink ≡ g.K.Sink.faults l.fn.sink;
  taken : TakenSoFar (g.K.Sink.taken l.fn.sink) (g.K.Sink.taken l.sink) (take l.written l.text);
}

abbrev pub decreases-loop-written : goal.decreases-loop-written
decreases-loop-written g l = length l.text - l.written
