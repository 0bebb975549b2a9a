use Rattle.std.proofs.Common.{rules, ◌==◌, ◌+◌, ◌%◌, arith}
use prog.Atomic.{either}
use Rattle.turnstile.proofs.TurnSteps.{marks_on}
use Rattle.turnstile.proofs.steps.wake.Goals as goal

pub compare_exchange-requires : goal.compare_exchange-requires
compare_exchange-requires g c =
    let spot = c.spot_of-spot.ensures.spot in
    let most = spot.1 in
    let words = c.requires.table.1 in
    let mark = c.peek-mark.result in
    (search rules, omega arith, marks_on _ _ _ _ _ _ _ (λ n. either (n == mark) ((mark + 1) % 18446744073709551616) n) _ spot.0)
