use Rattle.std.proofs.Common.{arith}
use Rattle.rankers.proofs.ClassFacts.{known_at}
use Rattle.rankers.proofs.classing.members_of.Goals as goal

pub class_of-requires : goal.class_of-requires
class_of-requires c =
    let listed = c.class_order-coflow-items.ensures in
    known_at _ c.args.classes.now.order c.class_order-coflow-items.result.now c.loop-coflow.coflow-index listed.classes.order_is.coflow listed.order c.loop-coflow-test.true

pub id-requires : goal.id-requires
id-requires c =
    let listed = c.class_order-coflow-items.ensures in
    omega (
      arith,
      c.requires,
      known_at _ c.args.classes.now.order c.class_order-coflow-items.result.now c.loop-coflow.coflow-index listed.classes.order_is.coflow listed.order c.loop-coflow-test.true,
    )
