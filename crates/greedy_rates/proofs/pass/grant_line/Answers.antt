-- One coflow after another.
use Rattle.std.proofs.Common.{◌∙◌}
use Rattle.greedy_rates.proofs.LineSteps.{next_coflow}
use Rattle.greedy_rates.proofs.pass.grant_line.Goals as goal

pub loop-coflow-preserved : goal.loop-coflow-preserved
loop-coflow-preserved c =
    let before = c.loop-coflow.invariant in
    record {
      at_len = c.grant_coflow.ensures.at_len ∙ before.at_len;
      busy_len = c.grant_coflow.ensures.busy_len ∙ before.busy_len;
      granting = c.grant_coflow.ensures.granting c.args.line.now c.loop-coflow.coflow-index
          (next_coflow c.args.flows.now c.args.line.now c.args.starts.now c.loop-coflow.coflow-index c.requires.starts c.requires.distinct c.loop-coflow-test.true
          (c.requires.coflows c.loop-coflow.coflow-index 0 c.loop-coflow-test.true)) before.granting;
    }
