-- the caps so far are those of the classes before and of the flows of the class so far
use Rattle.std.proofs.Common.{◌≡◌, length}
use Rattle.class_rates.proofs.CapSteps.{IsCapping}
use Rattle.class_rates.proofs.caps.set_caps.Given as goal

abbrev pub invariant-loop-flow : goal.invariant-loop-flow
invariant-loop-flow l = record {
  length_is : length l.caps ≡ length l.numbers;
  capping : IsCapping l.flows l.numbers l.class l.caps l.flow-index;
}
