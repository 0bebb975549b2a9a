use Rattle.std.proofs.Common.{rules, bit_or, arith}
use Rattle.turnstile.proofs.TurnSteps.{marks_on}
use Rattle.turnstile.proofs.steps.sleep.Goals as goal

pub fetch_or-mark-requires : goal.fetch_or-mark-requires
fetch_or-mark-requires g c = let spot = c.spot_of-spot.ensures.spot in let most = spot.1 in let words = c.requires.table.1 in
    (search rules, omega arith, marks_on _ _ _ _ _ _ _ (λ n. bit_or n 1) _ spot.0)
