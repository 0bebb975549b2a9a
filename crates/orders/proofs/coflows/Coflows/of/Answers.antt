use Rattle.std.proofs.Common.{◌<◌, ◌≤◌, length, arith, nat_eq}
use Rattle.std.proofs.lemmas.List.{take_all}
use Rattle.indexmap.specs.IndexMap.{get}
use Rattle.orders.proofs.Places.{one_more}
use Rattle.orders.proofs.coflows.Coflows.of.Goals as goal

pub loop-coflow-preserved : goal.loop-coflow-preserved
loop-coflow-preserved c =
    let inside : c.loop-coflow.coflow < length c.args.table.now.ids = omega (arith, c.loop-coflow-test.true, c.coflows-coflow-end.ensures.coflows) in
    one_more (λ n. get nat_eq c.loop-coflow.numbers n) (λ n. get nat_eq c.add.new.numbers n) c.args.table.now.ids c.loop-coflow.coflow c.id.result inside c.id.ensures (omega arith)
    c.loop-coflow.invariant c.in-Ok.ensures

pub invariant_of-result : goal.invariant_of-result
invariant_of-result c =
    let end : length c.args.table.now.ids ≤ c.loop-coflow.coflow = omega (arith, c.loop-coflow-test.false, c.coflows-coflow-end.ensures.coflows) in
    rw (take_all c.loop-coflow.coflow c.args.table.now.ids end) at c.loop-coflow.invariant
