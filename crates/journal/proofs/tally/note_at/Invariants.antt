-- the credits so far are changed, and the others are as they were
use Rattle.std.proofs.Common.{◌≡◌}
use Rattle.journal.specs.Tally.{noted_credit}
use Rattle.journal.proofs.TallySteps.{changed}
use Rattle.journal.proofs.tally.note_at.Given as goal

abbrev pub invariant-loop-credit : goal.invariant-loop-credit
invariant-loop-credit l = l.credits ≡ changed (noted_credit l.port l.units) l.fn.credits l.credit-index
