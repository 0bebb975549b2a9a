use Rattle.std.proofs.Common.{Contains, ◌∙◌}
use Rattle.matching.specs.Board.{graph_of, Stands}
use Rattle.matching.specs.Sound.{left_at}
use Rattle.matching.proofs.SettleSteps.{first_side_waits}
use Rattle.matching.proofs.tables.Tables.turn_to_first.Goals as goal

pub returns-clause-sound : goal.returns-clause-sound
returns-clause-sound c =
    let m = c.args.self.now in
    let g = graph_of m.ranks in
    let s = c.requires in
    record {
      ranks = s.ranks;
      lefts = s.lefts;
      heads = s.heads;
      chain = s.chain;
      behind = s.behind;
      rows = s.rows;
      board = s.board;
      room = c.wait_first.ensures.room ∙ s.room;
      kept = first_side_waits m.ranks.ports g (left_at m) (Stands g m.board.at.items) (λ p. Contains m.board.waiting.ports p) (λ p. Contains c.wait_first.new.self.ports p)
          s.ranks.graph c.wait_first.ensures.all s.kept;
      top = s.top;
      settled = s.settled;
    }
