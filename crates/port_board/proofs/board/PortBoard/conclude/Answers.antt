use Rattle.std.proofs.Common.{rules, sym, ◌∙◌}
use Rattle.port_board.proofs.PosterSteps.{reading_sent, is_reported, step_ready}
use Rattle.port_board.proofs.board.PortBoard.conclude.Goals as goal

pub load-requires-clause-allowed : goal.load-requires-clause-allowed
load-requires-clause-allowed c =
    reading_sent _ _ _ _ _ _ c.requires.poster.0
    (c.requires.poster.1 ∙ step_ready _ _ c.requires.word.0 (is_reported _ c.requires.word.0 c.requires.word.1 (sym c.is_shown.ensures ∙ c.if-is_shown.false))) (search rules)
