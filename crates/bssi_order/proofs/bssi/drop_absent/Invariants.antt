use Rattle.bssi_order.proofs.TableSteps.{DroppedSoFar}
use Rattle.bssi_order.proofs.bssi.drop_absent.Given as goal

abbrev pub invariant-loop-coflow : goal.invariant-loop-coflow
invariant-loop-coflow l = DroppedSoFar l.fn.loads l.loads l.present l.coflow
