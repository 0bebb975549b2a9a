use Rattle.std.proofs.Common.{◌+◌, ap, arith, length, List}
use Rattle.workload.specs.declared.script.ScriptLine.{ScriptLine}
use Rattle.live_serving.proofs.FewEntries.{count_within, one_more}
use Rattle.live_serving.proofs.limit.commands_of.Goals as goal

pub overflow_cast-count : goal.overflow_cast-count
overflow_cast-count c =
    let k = c.loop-round.round-index in
    let next = one_more c.args.script.now.rounds c.as_slice-round-items.result.now k c.round-item.result c.as_slice-round-items.ensures c.round-item.is c.loop-round-test.true in
    omega (arith, c.requires.few, next, count_within c.args.script.now.rounds (k + 1), ap (λ (l : List ScriptLine). length l) c.as_slice.ensures)

pub overflow_add-count : goal.overflow_add-count
overflow_add-count c =
    let k = c.loop-round.round-index in
    let next = one_more c.args.script.now.rounds c.as_slice-round-items.result.now k c.round-item.result c.as_slice-round-items.ensures c.round-item.is c.loop-round-test.true in
    omega (
      arith,
      c.requires.few,
      c.loop-round.invariant.count,
      next,
      count_within c.args.script.now.rounds (k + 1),
      ap (λ (l : List ScriptLine). length l) c.as_slice.ensures,
    )

pub loop-round-preserved : goal.loop-round-preserved
loop-round-preserved c =
    let k = c.loop-round.round-index in
    let next = one_more c.args.script.now.rounds c.as_slice-round-items.result.now k c.round-item.result c.as_slice-round-items.ensures c.round-item.is c.loop-round-test.true in
    record { count = omega (arith, c.loop-round.invariant.count, next, ap (λ (l : List ScriptLine). length l) c.as_slice.ensures) }
