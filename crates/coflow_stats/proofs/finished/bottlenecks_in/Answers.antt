use Rattle.std.proofs.Common.{rules}
use Rattle.port_load.specs.Bottleneck.{IsBottleneck}
use Rattle.coflow_stats.proofs.FinishedSteps.{each_more}
use Rattle.coflow_stats.proofs.finished.bottlenecks_in.Goals as goal

pub loop-coflow-preserved : goal.loop-coflow-preserved
loop-coflow-preserved c = record {
  count = search rules;
  greatest = λ k lt. each_more (IsBottleneck c.args.loads.now) c.loop-coflow.bottlenecks.items c.push.new.self.items c.bottleneck.result c.loop-coflow.coflow 0
      c.in_ok-push.ensures.items c.loop-coflow.invariant.count c.loop-coflow.invariant.greatest c.bottleneck.ensures k lt;
}
