use Rattle.std.proofs.Common.{length, ap, arith}
use Rattle.flow_table.specs.Sent.{sent}
use Rattle.flow_table.proofs.CoflowSteps.{line_sends}
use Rattle.flow_table.proofs.FlowSteps.{have_all}
use Rattle.flow_table.proofs.StopSteps.{passed_up}
use Rattle.flow_table.proofs.Within.{no_coflow}
use Rattle.flow_table.proofs.flows.flows_of.Goals as goal

pub returns-in_err-push_coflow-clause-full : goal.returns-in_err-push_coflow-clause-full
returns-in_err-push_coflow-clause-full c =
    let is = line_sends c.args.trace.now c.args.unit.megabytes c.loop-coflow.coflow c.as_slice-line-items.result.now c.line-item.result c.as_slice-line-items.ensures
    c.loop-coflow-test.true c.line-item.is in
    passed_up c.from_residual.result c.in_err-push_coflow.field-0.0 _ _ c.from_residual.ensures.1 c.in_err-push_coflow.ensures.full
    (λ full. full (sent c.args.trace.now c.args.unit.megabytes) is c.loop-coflow.invariant.so_far)

pub loop-coflow-preserved : goal.loop-coflow-preserved
loop-coflow-preserved c =
    let is = line_sends c.args.trace.now c.args.unit.megabytes c.loop-coflow.coflow c.as_slice-line-items.result.now c.line-item.result c.as_slice-line-items.ensures
    c.loop-coflow-test.true c.line-item.is in
    record {
      few = c.in_ok-push_coflow.ensures.few_still;
      so_far = c.in_ok-push_coflow.ensures.pushed (sent c.args.trace.now c.args.unit.megabytes) is c.loop-coflow.invariant.so_far;
    }

pub returns-clause-flows : goal.returns-clause-flows
returns-clause-flows c =
    have_all (sent c.args.trace.now c.args.unit.megabytes) c.loop-coflow.coflow c.loop-coflow.flows.items c.loop-coflow.invariant.so_far
    (λ k i e from. no_coflow c.args.trace.now c.args.unit.megabytes k i e (omega (arith, ap length c.as_slice-line-items.ensures)))
