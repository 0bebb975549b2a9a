use Rattle.std.proofs.Common.{◌+◌, ◌*◌, sym, ap, ◌∙◌}
use Rattle.std.specs.Prelude.{replicate}
use Rattle.rank_board.proofs.Writing.{starts, new_words}
use Rattle.rank_board.proofs.Seats.{makes_another}
use Rattle.rank_board.proofs.board.RankBoard.new.Goals as goal

pub of_words-requires-clause-rule : goal.of_words-requires-clause-rule
of_words-requires-clause-rule c =
    let t = new_words c.deref.result.now c.from-key.result
    (c.deref.ensures.value ∙ (c.in_ok-words.ensures.items_if_clones_equal (λ y e. e) ∙ ap (λ z. replicate (1 + 2 * z) 0) (sym c.from-key.ensures))) in
    starts c.from-key.result c.deref.result.now t.0 t.1

pub split_seat-first-requires-clause-allowed : goal.split_seat-first-requires-clause-allowed
split_seat-first-requires-clause-allowed c = makes_another _ _ _
