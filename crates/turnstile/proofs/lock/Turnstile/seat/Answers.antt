use Rattle.std.proofs.Common.{rules}
use Rattle.turnstile.proofs.SeatSteps.{makes_seat}
use Rattle.turnstile.proofs.lock.Turnstile.seat.Goals as goal

pub split_seat-requires : goal.split_seat-requires
split_seat-requires g c = (search rules, search rules, makes_seat _ _ _ _ _ _ c.root.invariant.0 (search rules))
