use Rattle.std.proofs.Common.{arith, get_or}
use Rattle.std.proofs.lemmas.List.Sums.{sum_by_more_le}
use Rattle.class_rates.specs.Classes.{size_by}
use Rattle.class_rates.proofs.Parts.{sizes_fit}
use Rattle.class_rates.proofs.folding.size_of_all.Goals as goal

pub overflow_add-all : goal.overflow_add-all
overflow_add-all c = omega (
  arith,
  c.loop-coflow.invariant,
  c.size_of-all.ensures,
  sum_by_more_le (size_by c.args.by (λ k. get_or c.args.loads.now k 0)) c.args.order.now c.loop-coflow.coflow-index 0 c.loop-coflow-test.true,
  sizes_fit c.args.by c.args.loads.now c.args.order.now (λ k. omega (arith, c.type_inv.loads k)) c.requires.few,
)
