use Rattle.std.proofs.Common.{ap, arith, length, List}
use Rattle.workload.specs.declared.script.ScriptLine.{ScriptLine}
use Rattle.live_serving.proofs.FewEntries.{one_more}
use Rattle.live_serving.proofs.limit.commands.Goals as goal

pub loop-round-preserved : goal.loop-round-preserved
loop-round-preserved c =
    let next = one_more c.args.script.now.rounds c.as_slice-round-items.result.now c.loop-round.round-index c.round-item.result c.as_slice-round-items.ensures
    c.round-item.is c.loop-round-test.true in
    record { count = omega (arith, c.loop-round.invariant.count, next, ap (λ (l : List ScriptLine). length l) c.as_slice.ensures) }
