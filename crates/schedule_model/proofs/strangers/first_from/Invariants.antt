-- the numbers so far are below the limit
use Rattle.std.proofs.Common.{◌<◌, take}
use Rattle.std.specs.Prelude.{All}
use Rattle.schedule_model.proofs.strangers.first_from.Given as goal

abbrev pub invariant-loop-number : goal.invariant-loop-number
invariant-loop-number l = All (λ f. f < l.limit) (take l.number-index l.numbers)
