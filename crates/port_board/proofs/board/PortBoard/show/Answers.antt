use Rattle.std.proofs.Common.{ap}
use Rattle.port_board.proofs.AgentSteps.{M}
use Rattle.port_board.proofs.Seats.{makes_note, hears_note}
use Rattle.port_board.proofs.board.PortBoard.show.Goals as goal

pub split_seat-note-requires-clause-allowed : goal.split_seat-note-requires-clause-allowed
split_seat-note-requires-clause-allowed c = makes_note _ _ _ c.poster.invariant.2

pub join_seat-requires-clause-allowed : goal.join_seat-requires-clause-allowed
join_seat-requires-clause-allowed c =
    let e = c.split_seat-note.ensures.made in
    hears_note _ _ _ _ _ _ c.seat.invariant.2 c.seat.invariant.1 (ap (λ (m : M). m.0.kind) e) (ap (λ (m : M). m.0.made) e)
    (ap (λ (m : M). m.0.back) e)
