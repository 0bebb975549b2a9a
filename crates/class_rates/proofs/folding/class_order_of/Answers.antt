use Rattle.std.proofs.Common.{◌+◌, arith, refl, subst, sym}
use Rattle.class_rates.proofs.FoldSteps.{IsOrderedUpTo, all_ordered, class_pushed}
use Rattle.class_rates.proofs.folding.class_order_of.Goals as goal

pub loop-before-preserved : goal.loop-before-preserved
loop-before-preserved c =
    let n = c.loop-before.before + 1 in
    subst (IsOrderedUpTo c.args.numbers.now n) (sym c.in_ok-push_class.ensures)
    (class_pushed c.args.numbers.now c.loop-before.order.items c.loop-before.before n refl c.loop-before.invariant)

pub returns : goal.returns
returns c = all_ordered c.args.numbers.now c.loop-before.order.items c.loop-before.before c.args.classes c.requires.class
    (omega (arith, c.loop-before-test.false)) c.loop-before.invariant
