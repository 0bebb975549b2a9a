use Rattle.std.proofs.Common.{◌≡◌, ◌+◌, ◌∙◌, [], length, ap, arith}
use Rattle.std.proofs.lemmas.Grind.{common_steps}
use Rattle.flow_table.specs.Table.{instance_of}
use Rattle.rankers.proofs.Benches.{bench_done, bench_step, next_left, next_reached, some_left}
use Rattle.rankers.proofs.comparing.compare.Goals as goal

pub rankers-preserved : goal.rankers-preserved
rankers-preserved g c = record {
  room = c.rounds_of.auto.order ∙ c.rankers.invariant.room;
  few = omega (arith, c.rankers.invariant.few, ap length c.take_first-ranker.ensures);
  left = next_left c.args.bench.now.items c.rankers.bench.items c.take_first-ranker.new.bench.items c.rankers.index c.take_first-ranker.result c.rankers.invariant.left
      c.take_first-ranker.ensures;
  reached = next_reached (λ b. (goal.Ranker-dyn g (b.vtable, b.value)).answered b.value c.args.facts.now)
      c.args.bench.now.items c.rankers.bench.items c.take_first-ranker.new.bench.items c.rankers.index c.take_first-ranker.result
      c.rankers.invariant.left c.take_first-ranker.ensures c.rankers.invariant.reached c.rounds_of.ensures.answered;
  rows = bench_step (λ b. (goal.Ranker-dyn g (b.vtable, b.value)).meaning b.value) (instance_of c.args.table.now c.args.weights.now) c.args.facts.now (c.rankers.index + 1)
      c.args.bench.now.items c.rankers.bench.items c.take_first-ranker.new.bench.items c.take_first-ranker.result c.rankers.rows.items c.push.new.self.items
      c.push-in-rankers.new.self.items c.in_ok-rounds.rounds.first c.in_ok-rounds.rounds.second c.take_first-ranker.ensures c.in_ok-rounds.ensures.rounds c.rankers.invariant.rows
      c.in_ok-push.ensures.items c.in_ok-push-2.ensures.items;
}

pub returns-clause-rows : goal.returns-clause-rows
returns-clause-rows g c =
    let none : c.rankers.bench.items ≡ [] = grind (arith, common_steps) in
    bench_done (λ b. (goal.Ranker-dyn g (b.vtable, b.value)).meaning b.value) (instance_of c.args.table.now c.args.weights.now) c.args.facts.now (c.rankers.index + 1)
    c.args.bench.now.items c.rankers.bench.items c.rankers.rows.items none c.rankers.invariant.rows

pub returns-in_err-rounds-clause-left : goal.returns-in_err-rounds-clause-left
returns-in_err-rounds-clause-left g c = some_left (λ b. (goal.Ranker-dyn g (b.vtable, b.value)).answered b.value c.args.facts.now)
    c.args.bench.now.items c.rankers.bench.items c.take_first-ranker.new.bench.items c.rankers.index c.take_first-ranker.result
    c.rankers.invariant.left c.take_first-ranker.ensures c.rankers.invariant.reached c.rounds_of.ensures.answered

pub returns-in_err-push-clause-left : goal.returns-in_err-push-clause-left
returns-in_err-push-clause-left g c = some_left (λ b. (goal.Ranker-dyn g (b.vtable, b.value)).answered b.value c.args.facts.now)
    c.args.bench.now.items c.rankers.bench.items c.take_first-ranker.new.bench.items c.rankers.index c.take_first-ranker.result
    c.rankers.invariant.left c.take_first-ranker.ensures c.rankers.invariant.reached c.rounds_of.ensures.answered

pub returns-in_err-push-2-clause-left : goal.returns-in_err-push-2-clause-left
returns-in_err-push-2-clause-left g c = some_left (λ b. (goal.Ranker-dyn g (b.vtable, b.value)).answered b.value c.args.facts.now)
    c.args.bench.now.items c.rankers.bench.items c.take_first-ranker.new.bench.items c.rankers.index c.take_first-ranker.result
    c.rankers.invariant.left c.take_first-ranker.ensures c.rankers.invariant.reached c.rounds_of.ensures.answered

pub returns-clause-left : goal.returns-clause-left
returns-clause-left g c = (c.rankers.index, c.rankers.invariant.left, c.rankers.invariant.reached)
