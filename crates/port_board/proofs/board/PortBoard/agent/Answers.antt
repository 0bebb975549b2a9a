use Rattle.port_board.proofs.Seats.{makes_agent}
use Rattle.port_board.proofs.board.PortBoard.agent.Goals as goal

pub split_seat-place-requires-clause-allowed : goal.split_seat-place-requires-clause-allowed
split_seat-place-requires-clause-allowed c = makes_agent _ _ _ c.poster.invariant.2
