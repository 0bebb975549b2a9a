use Rattle.rank_board.proofs.Seats.{makes_another}
use Rattle.rank_board.proofs.board.RankBoard.seat.Goals as goal

pub split_seat-requires-clause-allowed : goal.split_seat-requires-clause-allowed
split_seat-requires-clause-allowed c = makes_another _ _ _
