use Rattle.std.proofs.Common.{◌*◌, sym, ap, ◌∙◌}
use Rattle.std.specs.Prelude.{replicate}
use Rattle.port_board.proofs.NewBoard.{starts}
use Rattle.port_board.proofs.Posting.{new_words}
use Rattle.port_board.proofs.board.PortBoard.new.Goals as goal

pub of_words-requires-clause-rule : goal.of_words-requires-clause-rule
of_words-requires-clause-rule c =
    let t = new_words c.deref.result.now c.from-key.result
    (c.deref.ensures.value ∙ (c.in_ok-words.ensures.items_if_clones_equal (λ y e. e) ∙ ap (λ z. replicate (2 * z) 0) (sym c.from-key.ensures))) in
    starts c.from-key.result c.deref.result.now t.0 t.1
