use Rattle.std.proofs.Common.{arith}
use Rattle.schedule_model.proofs.TimeCounts.{note_more}
use Rattle.schedule_model.proofs.counts.note_since.Goals as goal

pub loop-flow-preserved : goal.loop-flow-preserved
loop-flow-preserved c =
    note_more c.loop-flow.since c.args.since.now c.args.flows.now c.args.slot c.loop-flow.flow-index
    (λ k d lt. omega (arith, c.requires k d lt, c.loop-flow.auto.since)) c.loop-flow-test.true c.loop-flow.invariant
