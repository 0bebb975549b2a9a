-- One flow after another.
use Rattle.std.proofs.Common.{arith}
use Rattle.master_core.proofs.search.first_owing.Goals as goal

pub loop-number-init : goal.loop-number-init
loop-number-init c = λ f lt. absurd (omega arith)
