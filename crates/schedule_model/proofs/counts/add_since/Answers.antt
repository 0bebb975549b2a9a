use Rattle.std.proofs.Common.{◌-◌, arith, get_or}
use Rattle.schedule_model.proofs.TimeCounts.{add_fits, add_more}
use Rattle.schedule_model.proofs.counts.add_since.Goals as goal

pub overflow_add-counts : goal.overflow_add-counts
overflow_add-counts c =
    omega (
      arith,
      add_fits c.loop-flow.counts c.args.counts.now c.args.flows.now (λ f. c.args.slot - get_or c.args.since.now f 0) c.loop-flow.flow-index c.requires.ascending
          c.loop-flow-test.true c.loop-flow.invariant,
      c.requires.fits (get_or c.args.flows.now c.loop-flow.flow-index 0),
    )

pub loop-flow-preserved : goal.loop-flow-preserved
loop-flow-preserved c =
    add_more c.loop-flow.counts c.args.counts.now c.args.flows.now (λ f. c.args.slot - get_or c.args.since.now f 0) c.loop-flow.flow-index c.requires.ascending
    (λ k d lt. omega (arith, c.requires.names k d lt, c.loop-flow.auto.counts)) c.loop-flow-test.true c.loop-flow.invariant
