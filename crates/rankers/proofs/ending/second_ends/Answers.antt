use Rattle.std.proofs.Common.{◌≡◌, [], ◌∙◌, arith}
use Rattle.std.proofs.lemmas.Grind.{common_steps}
use Rattle.flow_table.specs.Table.{instance_of}
use Rattle.rankers.proofs.SecondRounds.{ends_done, ends_step}
use Rattle.rankers.proofs.ending.second_ends.Goals as goal

pub loop-order-preserved : goal.loop-order-preserved
loop-order-preserved g c = record {
  room = c.came_of.auto.order ∙ c.loop-order.invariant.room;
  rows = ends_step (λ b. (goal.Ranker-dyn g (b.vtable, b.value)).meaning b.value) (instance_of c.args.table.now c.args.facts.now.weights) c.args.facts.now
      c.args.bench.items c.loop-order.bench.items c.take_first-ranker.new.bench.items c.take_first-ranker.result c.loop-order.rows.items c.push.new.self.items
      c.in_ok-name.name c.in_ok-came.came c.take_first-ranker.ensures c.in_ok-name.ensures.name c.in_ok-came.ensures c.loop-order.invariant.rows c.in_ok-push.ensures.items;
}

pub returns : goal.returns
returns g c =
    let none : c.loop-order.bench.items ≡ [] = grind (arith, common_steps) in
    ends_done (λ b. (goal.Ranker-dyn g (b.vtable, b.value)).meaning b.value) (instance_of c.args.table.now c.args.facts.now.weights) c.args.facts.now
    c.args.bench.items c.loop-order.bench.items c.loop-order.rows.items none c.loop-order.invariant.rows
