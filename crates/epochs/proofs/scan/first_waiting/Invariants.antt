use Rattle.epochs.proofs.ScanLoops.{FirstWaitingTo}
use Rattle.epochs.proofs.scan.first_waiting.Given as goal

abbrev pub invariant-loop-coflow : goal.invariant-loop-coflow
invariant-loop-coflow l = FirstWaitingTo l.arrivals l.registered l.coflow l.first
