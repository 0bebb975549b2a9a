use Rattle.matching.proofs.board.Board.with_room.Goals as goal

pub returns-clause-at : goal.returns-clause-at
returns-clause-at c = c.in_ok-at.ensures.items_if_clones_equal (λ y e. e)
