use Rattle.std.proofs.Common.{◌≡◌, ◌⊎◌, ◌+◌, ◌*◌, ◌^◌, ◌≤◌, inl, inr, get_or, length, Contains, sym, subst, ◌∙◌, arith}
use Rattle.std.proofs.lemmas.List.{get_or_default}
use Rattle.matching.specs.Board.{graph_of, Stands, total_weight}
use Rattle.matching.specs.Sound.{left_at}
use Rattle.matching.proofs.KeptSteps.{rank_goes_in, port_leaves}
use Rattle.matching.proofs.SettleSteps.{IsScene, found_rank, found_goes_in, clear_at, weight_bound, budget_falls}
use Rattle.matching.proofs.tables.Tables.look_at.Goals as goal

pub returns-then-rank-index-clause-sound : goal.returns-then-rank-index-clause-sound
returns-then-rank-index-clause-sound c =
    let m = c.args.self.now in
    let g = graph_of m.ranks in
    let s = c.requires.sound in
    let rank = c.look-rank.result in
    let stands : c.index.result.now ≡ get_or m.board.at.items c.args.port 0 =
    c.index.ensures ∙ get_or_default m.board.at.items c.args.port c.index.result.now 0 (omega (arith, s.board.size, c.requires.port)) in
    let scene : IsScene m.ranks.ports g (left_at m) m.heads.least.items m.board.at.items c.args.port rank = record {
      graph = s.ranks.graph;
      table = s.heads;
      board = s.board;
      low = c.requires.port;
      looked = c.look-rank.ensures;
    } in
    let found = found_rank m.ranks.ports g (left_at m) m.heads.least.items m.board.at.items c.args.port rank scene (omega (arith, stands, c.if-rank-index.true)) in
    let placed = c.put.ensures.placed in
    record {
      ranks = s.ranks;
      lefts = s.lefts;
      heads = s.heads;
      chain = s.chain;
      behind = s.behind;
      rows = s.rows;
      board = c.put.ensures.board;
      room = c.put.ensures.room ∙ s.room;
      kept = rank_goes_in g (left_at m) (Stands g m.board.at.items) (Stands g c.put.new.self.at.items) (λ p. (p ≡ c.args.port) ⊎ Contains m.board.waiting.ports p)
          (λ p. Contains c.put.new.self.waiting.ports p) c.args.port rank
          (found_goes_in m.ranks.ports g (left_at m) m.heads.least.items m.board.at.items c.put.new.self.at.items m.board.waiting.ports c.put.new.self.waiting.ports c.args.port
          rank scene found placed) s.kept;
      top = λ r q has lq some a b. elim (placed.from r has) [
        | inl e ↦ subst (λ x. x ≤ q) (sym e) (found.top q lq some (subst (λ x. g.first q ≡ g.first x) e a) (subst (λ x. g.second q ≡ g.second x) e b))
        | inr (old, _) ↦ s.top r q old lq some a b
      ];
      settled = λ r low. absurd (omega (arith, low, c.requires.settled));
    }

pub returns-then-rank-index-clause-budget : goal.returns-then-rank-index-clause-budget
returns-then-rank-index-clause-budget c =
    let m = c.args.self.now in
    budget_falls ((m.ranks.ports + m.ranks.ports) * 2 ^ (2 * m.ranks.count)) (total_weight m.ranks.count m.board.at.items) (total_weight m.ranks.count c.put.new.self.at.items)
    (length m.board.waiting.ports) (length c.put.new.self.waiting.ports)
    c.put.ensures.placed.rises (weight_bound m.ranks.ports m.ranks.count c.put.new.self.at.items c.put.ensures.board.size) c.put.ensures.placed.two_more

pub returns-else-rank-index-clause-sound : goal.returns-else-rank-index-clause-sound
returns-else-rank-index-clause-sound c =
    let m = c.args.self.now in
    let g = graph_of m.ranks in
    let s = c.requires.sound in
    let rank = c.look-rank.result in
    let stands : c.index.result.now ≡ get_or m.board.at.items c.args.port 0 =
    c.index.ensures ∙ get_or_default m.board.at.items c.args.port c.index.result.now 0 (omega (arith, s.board.size, c.requires.port)) in
    let scene : IsScene m.ranks.ports g (left_at m) m.heads.least.items m.board.at.items c.args.port rank = record {
      graph = s.ranks.graph;
      table = s.heads;
      board = s.board;
      low = c.requires.port;
      looked = c.look-rank.ensures;
    } in
    record {
      ranks = s.ranks;
      lefts = s.lefts;
      heads = s.heads;
      chain = s.chain;
      behind = s.behind;
      rows = s.rows;
      board = s.board;
      room = s.room;
      kept = port_leaves g (left_at m) (Stands g m.board.at.items) (λ p. (p ≡ c.args.port) ⊎ Contains m.board.waiting.ports p) (λ p. Contains m.board.waiting.ports p) c.args.port
          (λ q w. w)
          (clear_at m.ranks.ports g (left_at m) m.heads.least.items m.board.at.items c.args.port rank scene (omega (arith, stands, c.if-rank-index.false))) s.kept;
      top = s.top;
      settled = λ r low. absurd (omega (arith, low, c.requires.settled));
    }
