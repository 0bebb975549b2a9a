use Rattle.epochs.proofs.ScanLoops.{AllOweTo}
use Rattle.epochs.proofs.scan.first_served.Given as goal

abbrev pub invariant-loop-coflow : goal.invariant-loop-coflow
invariant-loop-coflow l = AllOweTo l.registered l.withdrawn l.owed l.coflow
