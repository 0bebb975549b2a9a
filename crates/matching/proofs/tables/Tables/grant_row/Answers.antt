use Rattle.std.proofs.Common.{◌≡◌, ℕ, List, ◌+◌, ◌*◌, ◌/◌, ◌<◌, get_or, set, sym, ap, subst, ◌∙◌, arith, length}
use Rattle.std.proofs.lemmas.Grind.{get_or_default_zero}
use Rattle.std.proofs.lemmas.Nat.{mul-add-lt}
use Rattle.matching.specs.Board.{graph_of, no_rank, IsBoard, IsPlaced}
use Rattle.matching.specs.Sound.{left_at}
use Rattle.matching.proofs.BitSteps.{cleared_in, cleared_here, cleared_elsewhere}
use Rattle.matching.proofs.BoardSteps.{IsCleared, nothing_freed, placed, placed_at, placed_board}
use Rattle.matching.proofs.PassSteps.{IsRowScene, across_low, head_granted, none_is_free, nothing_at, port_is_taken, rank_is_granted}
use Rattle.matching.proofs.tables.Tables.grant_row.Goals as goal

pub returns-then-index-lt-NONE-clause-passing : goal.returns-then-index-lt-NONE-clause-passing
returns-then-index-lt-NONE-clause-passing c =
    let m = c.args.self.now in
    let g = graph_of m.ranks in
    let ports = m.ranks.ports in
    let rows = m.heads.rows in
    let at = m.board.at.items in
    let free = c.args.free.now in
    let scene : IsRowScene ports g (left_at m) m.heads.least.items rows at free m.settled c.args.row = record {
      graph = c.requires.ranks.graph;
      table = c.requires.heads;
      layout = c.requires.rows;
      all = c.requires.ranked;
      low = c.requires.row;
      passing = c.requires.passing;
    } in
    let first_is : c.index-first.result.now ≡ get_or rows.first.items c.args.row 0 =
    c.index-first.ensures ∙ get_or_default_zero rows.first.items c.args.row c.index-first.result.now (omega (arith, c.requires.row, c.requires.rows.fits)) in
    let first_low : get_or rows.first.items c.args.row 0 < ports = c.requires.rows.inside c.args.row c.requires.row in
    let stands : c.index.result.now ≡ get_or at (get_or rows.first.items c.args.row 0) 0 =
    c.index.ensures ∙ ap (λ p. get_or at p c.index.result.now) first_is ∙
    get_or_default_zero at (get_or rows.first.items c.args.row 0) c.index.result.now (omega (arith, first_low, c.requires.passing.board.size)) in
    port_is_taken ports g (left_at m) m.heads.least.items rows at free m.settled c.args.row scene (omega (arith, stands, c.if-index-lt-NONE.true))

pub returns-in_default-clause-passing : goal.returns-in_default-clause-passing
returns-in_default-clause-passing c =
    let m = c.args.self.now in
    let g = graph_of m.ranks in
    let ports = m.ranks.ports in
    let rows = m.heads.rows in
    let at = m.board.at.items in
    let free = c.args.free.now in
    let scene : IsRowScene ports g (left_at m) m.heads.least.items rows at free m.settled c.args.row = record {
      graph = c.requires.ranks.graph;
      table = c.requires.heads;
      layout = c.requires.rows;
      all = c.requires.ranked;
      low = c.requires.row;
      passing = c.requires.passing;
    } in
    let first_is : c.index-first.result.now ≡ get_or rows.first.items c.args.row 0 =
    c.index-first.ensures ∙ get_or_default_zero rows.first.items c.args.row c.index-first.result.now (omega (arith, c.requires.row, c.requires.rows.fits)) in
    let first_low : get_or rows.first.items c.args.row 0 < ports = c.requires.rows.inside c.args.row c.requires.row in
    let stands : c.index.result.now ≡ get_or at (get_or rows.first.items c.args.row 0) 0 =
    c.index.ensures ∙ ap (λ p. get_or at p c.index.result.now) first_is ∙
    get_or_default_zero at (get_or rows.first.items c.args.row 0) c.index.result.now (omega (arith, first_low, c.requires.passing.board.size)) in
    none_is_free ports g (left_at m) m.heads.least.items rows at free m.settled c.args.row scene c.in_default.ensures

pub index-rank-requires : goal.index-rank-requires
index-rank-requires c =
    let m = c.args.self.now in
    let g = graph_of m.ranks in
    let ports = m.ranks.ports in
    let rows = m.heads.rows in
    let at = m.board.at.items in
    let free = c.args.free.now in
    let scene : IsRowScene ports g (left_at m) m.heads.least.items rows at free m.settled c.args.row = record {
      graph = c.requires.ranks.graph;
      table = c.requires.heads;
      layout = c.requires.rows;
      all = c.requires.ranked;
      low = c.requires.row;
      passing = c.requires.passing;
    } in
    let first_is : c.index-first.result.now ≡ get_or rows.first.items c.args.row 0 =
    c.index-first.ensures ∙ get_or_default_zero rows.first.items c.args.row c.index-first.result.now (omega (arith, c.requires.row, c.requires.rows.fits)) in
    let first_low : get_or rows.first.items c.args.row 0 < ports = c.requires.rows.inside c.args.row c.requires.row in
    let stands : c.index.result.now ≡ get_or at (get_or rows.first.items c.args.row 0) 0 =
    c.index.ensures ∙ ap (λ p. get_or at p c.index.result.now) first_is ∙
    get_or_default_zero at (get_or rows.first.items c.args.row 0) c.index.result.now (omega (arith, first_low, c.requires.passing.board.size)) in
    let across = c.in-Some.across in
    let low = across_low ports g (left_at m) m.heads.least.items rows at free m.settled c.args.row scene across c.in-Some.ensures in
    let place = get_or rows.first.items c.args.row 0 * ports + across in
    let granted = head_granted ports g (left_at m) m.heads.least.items rows at free m.settled c.args.row scene across c.in-Some.ensures in
    let place_low : place < length m.heads.least.items = omega (
      arith,
      mul-add-lt (get_or rows.first.items c.args.row 0) ports across (ports + ports) (omega (arith, first_low)) low,
      c.requires.heads.size,
    ) in
    omega (arith, place_low, ap (λ p. p * ports + across) first_is)

pub index_mut-requires-2 : goal.index_mut-requires-2
index_mut-requires-2 c =
    let m = c.args.self.now in
    let g = graph_of m.ranks in
    let ports = m.ranks.ports in
    let rows = m.heads.rows in
    let at = m.board.at.items in
    let free = c.args.free.now in
    let scene : IsRowScene ports g (left_at m) m.heads.least.items rows at free m.settled c.args.row = record {
      graph = c.requires.ranks.graph;
      table = c.requires.heads;
      layout = c.requires.rows;
      all = c.requires.ranked;
      low = c.requires.row;
      passing = c.requires.passing;
    } in
    let first_is : c.index-first.result.now ≡ get_or rows.first.items c.args.row 0 =
    c.index-first.ensures ∙ get_or_default_zero rows.first.items c.args.row c.index-first.result.now (omega (arith, c.requires.row, c.requires.rows.fits)) in
    let first_low : get_or rows.first.items c.args.row 0 < ports = c.requires.rows.inside c.args.row c.requires.row in
    let stands : c.index.result.now ≡ get_or at (get_or rows.first.items c.args.row 0) 0 =
    c.index.ensures ∙ ap (λ p. get_or at p c.index.result.now) first_is ∙
    get_or_default_zero at (get_or rows.first.items c.args.row 0) c.index.result.now (omega (arith, first_low, c.requires.passing.board.size)) in
    let across = c.in-Some.across in
    let low = across_low ports g (left_at m) m.heads.least.items rows at free m.settled c.args.row scene across c.in-Some.ensures in
    omega (arith, low, c.requires.passing.board.size, m.board.at.ok.0)

pub returns-clause-passing : goal.returns-clause-passing
returns-clause-passing c =
    let m = c.args.self.now in
    let g = graph_of m.ranks in
    let ports = m.ranks.ports in
    let rows = m.heads.rows in
    let at = m.board.at.items in
    let free = c.args.free.now in
    let scene : IsRowScene ports g (left_at m) m.heads.least.items rows at free m.settled c.args.row = record {
      graph = c.requires.ranks.graph;
      table = c.requires.heads;
      layout = c.requires.rows;
      all = c.requires.ranked;
      low = c.requires.row;
      passing = c.requires.passing;
    } in
    let first_is : c.index-first.result.now ≡ get_or rows.first.items c.args.row 0 =
    c.index-first.ensures ∙ get_or_default_zero rows.first.items c.args.row c.index-first.result.now (omega (arith, c.requires.row, c.requires.rows.fits)) in
    let first_low : get_or rows.first.items c.args.row 0 < ports = c.requires.rows.inside c.args.row c.requires.row in
    let stands : c.index.result.now ≡ get_or at (get_or rows.first.items c.args.row 0) 0 =
    c.index.ensures ∙ ap (λ p. get_or at p c.index.result.now) first_is ∙
    get_or_default_zero at (get_or rows.first.items c.args.row 0) c.index.result.now (omega (arith, first_low, c.requires.passing.board.size)) in
    let across = c.in-Some.across in
    let low = across_low ports g (left_at m) m.heads.least.items rows at free m.settled c.args.row scene across c.in-Some.ensures in
    let place = get_or rows.first.items c.args.row 0 * ports + across in
    let granted = head_granted ports g (left_at m) m.heads.least.items rows at free m.settled c.args.row scene across c.in-Some.ensures in
    let place_low : place < length m.heads.least.items = omega (
      arith,
      mul-add-lt (get_or rows.first.items c.args.row 0) ports across (ports + ports) (omega (arith, first_low)) low,
      c.requires.heads.size,
    ) in
    let rank_is : c.index-rank.result.now ≡ get_or m.heads.least.items place 0 =
    c.index-rank.ensures ∙ ap (λ p. get_or m.heads.least.items (p * ports + across) c.index-rank.result.now) first_is ∙
    get_or_default_zero m.heads.least.items place c.index-rank.result.now place_low in
    let rank = get_or m.heads.least.items place 0 in
    let none : get_or at (g.first rank) 0 ≡ no_rank = ap (λ p. get_or at p 0) granted.first ∙ nothing_at ports g at (get_or rows.first.items c.args.row 0) c.requires.ranks.graph
    c.requires.passing.board (omega (arith, first_low)) (omega (arith, stands, c.if-index-lt-NONE.false)) in
    let none' : get_or at (g.second rank) 0 ≡ no_rank = ap (λ p. get_or at p 0) granted.second ∙ c.requires.passing.free.free across low c.in-Some.ensures.2 in
    let waits = m.board.waiting.ports in
    let i = c.index-first.result.now in
    let v = c.index-rank.result.now in
    let new = set (set at i v) (ports + across) v in
    let same : placed_at g at rank ≡ new =
    ap (λ p. set (set at p rank) (g.second rank) rank) (granted.first ∙ sym first_is) ∙ ap (λ p. set (set at i rank) p rank) granted.second ∙
    ap (λ x. set (set at i x) (ports + across) x) (sym rank_is) in
    let cleared : IsCleared ports g at at at waits waits waits rank = record {
      graph = c.requires.ranks.graph;
      known = granted.known;
      low_first = omega (arith, none, granted.known, c.requires.ranks.graph.few);
      low_second = omega (arith, none', granted.known, c.requires.ranks.graph.few);
      board = c.requires.passing.board;
      between = c.requires.passing.board;
      now = c.requires.passing.board;
      first = nothing_freed ports g at waits (g.first rank) c.requires.ranks.graph none;
      second = nothing_freed ports g at waits (g.second rank) c.requires.ranks.graph none';
    } in
    let inside : across / 64 < length free = omega (arith, c.in-Some.ensures.0, c.requires.width) in
    let bits = set free (across / 64) (cleared_in (get_or free (across / 64) 0) across) in
    rank_is_granted ports g (left_at m) m.heads.least.items rows at free m.settled c.args.row scene
    across rank new bits waits waits (record {
      found = c.in-Some.ensures;
      granted = granted;
      none = none;
      none' = none';
      board = subst (λ (xs : List ℕ). IsBoard ports g xs) same (placed_board ports g at at at waits waits waits rank cleared);
      placed = subst (λ (xs : List ℕ). IsPlaced g at xs waits waits rank) same (placed ports g at at at waits waits waits rank cleared);
      here = cleared_here free (across / 64) across inside 0 (omega arith);
      others = λ e lt ne. cleared_elsewhere free (across / 64) across inside 0 e (λ same' rest. ne (omega (arith, same', rest)));
    })
