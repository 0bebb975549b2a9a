use Rattle.std.proofs.Common.{arith, inl, inr}
use Rattle.online_check.specs.Done.{ids_done}
use Rattle.online_check.proofs.DoneSteps.{all_listed, count_ids, first_unlisted_at}
use Rattle.online_check.proofs.ends.first_unlisted.Goals as goal

pub returns-in_default : goal.returns-in_default
returns-in_default c =
    let (untold, nothing, past, few, default) = c.in_default.ensures.lookup in
    first_unlisted_at c.args.table.now.ids (ids_done c.args.done.now) c.loop-coflow.coflow c.loop-coflow.invariant
    (inr (inl (omega (arith, c.loop-coflow-test.true, c.coflows-coflow-end.ensures.coflows), omega (arith, count_ids c.args.done.now, few))))

pub returns : goal.returns
returns c =
    all_listed c.args.table.now.ids (ids_done c.args.done.now) c.loop-coflow.coflow c.loop-coflow.invariant
    (omega (arith, c.loop-coflow-test.false, c.loop-coflow.auto.coflow-end, c.coflows-coflow-end.ensures.coflows))
    (omega (arith, count_ids c.args.done.now, c.if-done-coflows.false, c.coflows.ensures.coflows, c.loop-coflow-test.false, c.coflows-coflow-end.ensures.coflows))
