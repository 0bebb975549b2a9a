use Rattle.journal.proofs.TallySteps.{noted_elsewhere, noted_here}
use Rattle.journal.proofs.tally.note_at.Goals.{else-credit-port, then-credit-port}
use Rattle.journal.proofs.tally.note_at.Goals as goal

pub loop-credit-preserved : goal.loop-credit-preserved
loop-credit-preserved c = elim c.if-credit-port.branch [
  | then-credit-port w ↦
      noted_here c.args.port c.args.units c.args.credits.now c.loop-credit.credits c.if-credit-port.credits c.loop-credit.credit-index c.loop-credit-test.true
      c.loop-credit.invariant w.if-credit-port.true w.credits-is
  | else-credit-port w ↦
      noted_elsewhere c.args.port c.args.units c.args.credits.now c.loop-credit.credits c.if-credit-port.credits c.loop-credit.credit-index c.loop-credit-test.true
      c.loop-credit.invariant w.if-credit-port.false w.credits-is
]
