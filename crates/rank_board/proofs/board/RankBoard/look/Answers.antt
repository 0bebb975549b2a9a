use Rattle.std.proofs.Common.{ap}
use Rattle.rank_board.proofs.Views.{M}
use Rattle.rank_board.proofs.Reading.{looks_on}
use Rattle.rank_board.proofs.Pulling.{still_read}
use Rattle.rank_board.proofs.board.RankBoard.look.Goals as goal

pub load-front-requires-clause-allowed : goal.load-front-requires-clause-allowed
load-front-requires-clause-allowed c = looks_on _ _ _ _

pub invariant_of-seat : goal.invariant_of-seat
invariant_of-seat c = let e = c.load-front.ensures.told.0 in (ap (λ (m : M). m.0.seen) e, still_read _ _ _ _ (ap (λ (m : M). m.0.looks) e) c.seat.invariant.1)
