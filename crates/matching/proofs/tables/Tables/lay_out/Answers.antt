use Rattle.std.proofs.Common.{◌≡◌, ◌<◌, ◌+◌, ℕ, length, get_or, refl, subst, sym, ap, ◌∙◌, arith}
use Rattle.std.specs.Prelude.{All}
use Rattle.coflow_units.specs.declared.fabric.Flow.{Flow}
use Rattle.matching.specs.declared.board.Board.{Board}
use Rattle.matching.specs.declared.heads.Heads.{Heads}
use Rattle.matching.specs.declared.ranks.Ranks.{Ranks}
use Rattle.matching.specs.Board.{IsRanks, graph_of}
use Rattle.matching.specs.Ranking.{IsRanking, number_of}
use Rattle.matching.specs.Rows.{HoldsRows}
use Rattle.matching.specs.Sound.{left_at}
use Rattle.matching.proofs.MatchingSteps.{ranking_fits, ranking_made}
use Rattle.matching.proofs.RowSteps.{rows_hold}
use Rattle.matching.proofs.tables.Tables.lay_out.Goals as goal

pub copy_left-requires-clause-fits : goal.copy_left-requires-clause-fits
copy_left-requires-clause-fits c =
    omega (
      arith,
      c.rank.ensures.len,
      c.requires.room,
      c.requires.whole.room.ranked,
      ranking_fits c.args.flows.now c.args.line.now (λ f. get_or c.args.left.now f 0) (length c.args.line.now) 0 c.rank.new.self c.rank.ensures.ranking,
    )

pub copy_left-requires-clause-room : goal.copy_left-requires-clause-room
copy_left-requires-clause-room c =
    omega (
      arith,
      c.requires.room,
      ranking_fits c.args.flows.now c.args.line.now (λ f. get_or c.args.left.now f 0) (length c.args.line.now) 0 c.rank.new.self
          c.rank.ensures.ranking,
    )

pub fill-requires-clause-ranks : goal.fill-requires-clause-ranks
fill-requires-clause-ranks c =
    let flows = c.args.flows.now in
    let made = c.rank.new.self in
    let ranks = ranking_made flows c.args.line.now (λ (f : ℕ). get_or c.args.left.now f 0) (length c.args.line.now) 0 made
    (omega (arith, c.requires.room, c.requires.whole.room.few)) (omega (arith, c.rank.ensures.len, c.requires.room, c.requires.whole.room.ranked))
    (subst (λ n. All (λ (x : Flow). x.ingress < n) flows) (sym c.rank.ensures.ports) c.requires.ingress)
    (subst (λ n. All (λ (x : Flow). x.egress < n) flows) (sym c.rank.ensures.ports) c.requires.egress)
    (omega (arith, c.rank.ensures.source_room, c.requires.whole.sound.ranks.source_room, c.rank.ensures.ports)) c.rank.ensures.ranking in
    subst (λ (x : Ranks). IsRanks x) (sym c.copy_left.ensures.ranks) ranks

pub fill-requires-clause-room : goal.fill-requires-clause-room
fill-requires-clause-room c =
    omega (
      arith,
      c.requires.room,
      c.requires.whole.room.nexts,
      ap (λ (x : Ranks). x.count) c.copy_left.ensures.ranks,
      ap (λ (x : Heads). length x.next.items) c.copy_left.ensures.heads,
      ranking_fits c.args.flows.now c.args.line.now (λ f. get_or c.args.left.now f 0) (length c.args.line.now) 0 c.rank.new.self c.rank.ensures.ranking,
    )

pub fill-requires-clause-holds : goal.fill-requires-clause-holds
fill-requires-clause-holds c =
    let old = c.args.self.now in
    let copied = c.copy_left.new.self in
    let ports : copied.ranks.ports ≡ old.ranks.ports = ap (λ (x : Ranks). x.ports) c.copy_left.ensures.ranks ∙ c.rank.ensures.ports in
    let held : HoldsRows old.ranks.ports old.heads.rows = rows_hold old.ranks.ports (graph_of old.ranks) (left_at old) old.heads.rows c.requires.whole.sound.rows in
    subst (λ n. HoldsRows n copied.heads.rows) (sym ports) (subst (λ (x : Heads). HoldsRows old.ranks.ports x.rows) (sym c.copy_left.ensures.heads) held)

pub returns-clause-begun : goal.returns-clause-begun
returns-clause-begun c =
    let flows = c.args.flows.now in
    let line = c.args.line.now in
    let left = λ (f : ℕ). get_or c.args.left.now f 0 in
    let old = c.args.self.now in
    let made = c.rank.new.self in
    let copied = c.copy_left.new.self in
    let e = c.copy_left.ensures.ranks in
    let room = c.requires.whole.room in
    let fits = ranking_fits flows line left (length line) 0 made c.rank.ensures.ranking in
    let ports : copied.ranks.ports ≡ old.ranks.ports = ap (λ (x : Ranks). x.ports) e ∙ c.rank.ensures.ports in
    let count = ap (λ (x : Ranks). x.count) e in
    let board = ap (λ (x : Board). length x.at.items) c.copy_left.ensures.board in
    let size : length copied.board.at.items ≡ copied.ranks.ports + copied.ranks.ports = omega (arith, board, c.requires.whole.sound.board.size, ports) in
    let ranks = ranking_made flows line left (length line) 0 made (omega (arith, c.requires.room, room.few)) (omega (arith, c.rank.ensures.len, c.requires.room, room.ranked))
    (subst (λ n. All (λ (x : Flow). x.ingress < n) flows) (sym c.rank.ensures.ports) c.requires.ingress)
    (subst (λ n. All (λ (x : Flow). x.egress < n) flows) (sym c.rank.ensures.ports) c.requires.egress)
    (omega (arith, c.rank.ensures.source_room, c.requires.whole.sound.ranks.source_room, c.rank.ensures.ports)) c.rank.ensures.ranking in
    record {
      ranking = subst (λ (x : Ranks). IsRanking flows line left (length line) 0 x) (sym e) c.rank.ensures.ranking;
      ranks = subst (λ (x : Ranks). IsRanks x) (sym e) ranks;
      lefts = omega (arith, count, fits, c.copy_left.ensures.len, c.requires.room);
      units = λ r lt. c.copy_left.ensures.left r (omega (arith, lt, count)) ∙ ap (λ (x : Ranks). left (number_of x r)) (sym e);
      heads = c.fill.ensures.heads;
      chain = c.fill.ensures.chain;
      rows = c.fill.ensures.rows;
      start = refl;
      size = c.clear.ensures.len ∙ size;
      none = λ p lt. c.clear.ensures.none p (omega (arith, lt, size));
      room = omega (arith, c.clear.ensures.room, ap (λ (x : Board). x.waiting.room) c.copy_left.ensures.board, c.requires.whole.sound.room, ports);
      all = λ p lt. c.clear.ensures.all p (omega (arith, lt, size));
      listed = c.clear-2.ensures.none;
    }
