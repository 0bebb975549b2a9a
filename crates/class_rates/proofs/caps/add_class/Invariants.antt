-- the loads so far are those of the classes before and of the flows of the class so far
use Rattle.std.proofs.Common.{◌≡◌, length}
use Rattle.class_rates.proofs.CapSteps.{IsAdding}
use Rattle.class_rates.proofs.caps.add_class.Given as goal

abbrev pub invariant-loop-flow : goal.invariant-loop-flow
invariant-loop-flow l = record {
  length_is : length l.loads ≡ length l.fn.loads;
  adding : IsAdding l.flows l.numbers l.class l.side l.loads l.flow-index;
}
