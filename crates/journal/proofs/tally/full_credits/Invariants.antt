-- the flows so far are credited
use Rattle.std.proofs.Common.{◌≡◌, map, take}
use Rattle.journal.specs.Tally.{credit_at}
use Rattle.journal.proofs.tally.full_credits.Given as goal

abbrev pub invariant-loop-flow : goal.invariant-loop-flow
invariant-loop-flow l = l.credits.items ≡ map (λ f. credit_at l.flows f l.slots) (take l.flow-index l.granted)
