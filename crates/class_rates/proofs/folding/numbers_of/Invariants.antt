-- the classes of the coflows so far are written, and their sizes counted
use Rattle.std.proofs.Common.{◌≡◌, get_or, length, take}
use Rattle.std.specs.Prelude.{sum_by}
use Rattle.class_rates.specs.Classes.{size_by}
use Rattle.class_rates.proofs.FoldSteps.{HasClassesUpTo}
use Rattle.class_rates.proofs.folding.numbers_of.Given as goal

abbrev pub invariant-loop-coflow : goal.invariant-loop-coflow
invariant-loop-coflow l = record {
  length_is : length l.numbers.items ≡ length l.order;
  before_is : l.before ≡ sum_by (size_by l.by (λ c. get_or l.loads c 0)) (take l.coflow-index l.order);
  written : HasClassesUpTo (size_by l.by (λ c. get_or l.loads c 0)) l.order l.classes l.numbers.items l.coflow-index;
}
