use Rattle.std.proofs.Common.{ap}
use Rattle.rank_board.proofs.Views.{M}
use Rattle.rank_board.proofs.Seats.{gives_right, takes_right_on}
use Rattle.rank_board.proofs.board.hand_on.Goals as goal

pub split_seat-right-requires-clause-allowed : goal.split_seat-right-requires-clause-allowed
split_seat-right-requires-clause-allowed c = gives_right _ _ _ c.requires.right

pub join_seat-requires-clause-allowed : goal.join_seat-requires-clause-allowed
join_seat-requires-clause-allowed c = takes_right_on _ _ _ _ _ (ap (λ (m : M). m.0.publishes) c.split_seat-right.ensures.made)
