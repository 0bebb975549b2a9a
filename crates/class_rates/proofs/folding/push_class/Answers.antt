use Rattle.std.proofs.Common.{refl}
use Rattle.class_rates.proofs.FoldSteps.{not_pushed, pushed}
use Rattle.class_rates.proofs.folding.push_class.Goals.{then-numbers-coflow+in_ok-push, else-numbers-coflow}
use Rattle.class_rates.proofs.folding.push_class.Goals as goal

pub loop-coflow-preserved : goal.loop-coflow-preserved
loop-coflow-preserved c = elim c.if-numbers-coflow.branch [
  | then-numbers-coflow+in_ok-push w ↦ rw w.order-is
      (pushed c.args.numbers.now c.args.order.now.items c.args.class c.loop-coflow.coflow c.loop-coflow.invariant w.if-numbers-coflow.true w.in_ok-push.ensures.items)
  | else-numbers-coflow w ↦ rw w.order-is
      (not_pushed c.args.numbers.now c.args.order.now.items c.args.class c.loop-coflow.coflow c.loop-coflow.invariant w.if-numbers-coflow.false refl)
]
