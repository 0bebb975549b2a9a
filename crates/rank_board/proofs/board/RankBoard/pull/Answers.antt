use Rattle.std.proofs.Common.{◌∙◌, sym, ap}
use Rattle.rank_board.specs.Models.{SeatModel, saw_front, saw_word, kept}
use Rattle.rank_board.specs.Pulls.{pull_of}
use Rattle.rank_board.specs.Words.{rank_word}
use Rattle.rank_board.proofs.board.RankBoard.pull.Goals as goal

pub returns-clause-rank : goal.returns-clause-rank
returns-clause-rank c = λ version rank e. let r = c.read.ensures.rank version rank e in (
  r.0,
  r.1,
  r.3
      ∙ ap (λ (s : SeatModel). kept (pull_of version c.args.coflow rank c.args.mark) (saw_word version c.args.coflow (rank_word version rank) s))
      (c.look.ensures.seat ∙ ap (λ z. saw_front z c.args.seat.now) (sym r.2)),
)
