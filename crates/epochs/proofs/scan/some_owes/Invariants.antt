use Rattle.epochs.proofs.ScanLoops.{NoneOwesTo}
use Rattle.epochs.proofs.scan.some_owes.Given as goal

abbrev pub invariant-loop-coflow : goal.invariant-loop-coflow
invariant-loop-coflow l = NoneOwesTo l.registered l.withdrawn l.owed l.coflow
