use Rattle.std.proofs.Common.{◌+◌, subst, sym}
use Rattle.flow_table.proofs.StartSteps.{StartsSoFar, starts_more}
use Rattle.flow_table.proofs.starts.starts_of.Goals as goal

pub loop-coflow-preserved : goal.loop-coflow-preserved
loop-coflow-preserved c =
    let k = c.loop-coflow.coflow in
    let end = c.end_of_coflow-first.result in
    subst (StartsSoFar c.args.flows.now (k + 1) end) (sym c.in_ok-push.ensures.items)
    (starts_more c.args.flows.now k c.loop-coflow.first end c.loop-coflow.starts.items c.requires.ascending c.loop-coflow.invariant c.end_of_coflow-first.ensures.bound
    c.end_of_coflow-first.ensures.own c.end_of_coflow-first.ensures.last)
