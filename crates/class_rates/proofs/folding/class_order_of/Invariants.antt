-- the coflows of the classes so far are in order
use Rattle.class_rates.proofs.FoldSteps.{IsOrderedUpTo}
use Rattle.class_rates.proofs.folding.class_order_of.Given as goal

abbrev pub invariant-loop-before : goal.invariant-loop-before
invariant-loop-before l = IsOrderedUpTo l.numbers l.before l.order.items
