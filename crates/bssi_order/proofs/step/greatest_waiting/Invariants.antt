use Rattle.bssi_order.proofs.TableSteps.{GreatestSoFar}
use Rattle.bssi_order.proofs.step.greatest_waiting.Given as goal

abbrev pub invariant-loop-coflow : goal.invariant-loop-coflow
invariant-loop-coflow l = GreatestSoFar l.waiting l.greatest l.coflow
