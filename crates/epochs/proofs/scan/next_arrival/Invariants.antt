use Rattle.epochs.proofs.ScanLoops.{LaterArrivalTo}
use Rattle.epochs.proofs.scan.next_arrival.Given as goal

abbrev pub invariant-loop-arrival : goal.invariant-loop-arrival
invariant-loop-arrival l = LaterArrivalTo l.arrivals l.time l.arrival-index l.next
