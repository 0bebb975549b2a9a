use Rattle.std.proofs.Common.{rules}
use Rattle.rankers.proofs.Greatest.{one_more}
use Rattle.rankers.proofs.facts.bottlenecks_of.Goals as goal

pub loop-coflow-preserved : goal.loop-coflow-preserved
loop-coflow-preserved c = record {
  count = search rules;
  greatest = one_more c.args.loads.now c.loop-coflow.bottlenecks.items c.push.new.self.items c.bottleneck.result c.loop-coflow.coflow c.in_ok-push.ensures.items
      c.loop-coflow.invariant.count c.loop-coflow.invariant.greatest c.bottleneck.ensures;
}
