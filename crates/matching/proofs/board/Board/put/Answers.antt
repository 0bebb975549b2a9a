use Rattle.std.proofs.Common.{◌≡◌, set, subst, sym, ◌∙◌, arith}
use Rattle.std.proofs.lemmas.List.{get_or_default}
use Rattle.matching.specs.declared.ranks.Ranked.{Ranked}
use Rattle.matching.specs.Board.{IsBoard, IsFreed, IsPlaced, ranked_at, graph_of}
use Rattle.matching.proofs.BoardSteps.{IsCleared, placed_board, placed}
use Rattle.matching.proofs.board.Board.put.Goals as goal

pub returns-clause-board : goal.returns-clause-board
returns-clause-board c =
    let g = graph_of c.args.ranks.now in
    let h = c.args.rank in
    let is : c.index-flow.result.now ≡ ranked_at c.args.ranks.now.flows.items h =
    c.index-flow.ensures ∙ get_or_default c.args.ranks.now.flows.items h c.index-flow.result.now record {
      first = 0;
      second = 0;
      number = 0;
    } (omega (arith, c.requires.rank, c.requires.ranks.fits)) in
    let cleared : IsCleared c.args.ranks.now.ports g c.args.self.now.at.items c.free.new.self.at.items c.free-2.new.self.at.items c.args.self.now.waiting.ports
    c.free.new.self.waiting.ports c.free-2.new.self.waiting.ports h = record {
      graph = c.requires.ranks.graph;
      known = c.requires.rank;
      low_first = c.requires.first;
      low_second = c.requires.second;
      board = c.requires.board;
      between = c.free.ensures.board;
      now = c.free-2.ensures.board;
      first = subst (λ (x : Ranked). IsFreed c.args.ranks.now.ports g c.args.self.now.at.items c.free.new.self.at.items c.args.self.now.waiting.ports c.free.new.self.waiting.ports
          x.first) is c.free.ensures.freed;
      second = subst (λ (x : Ranked). IsFreed c.args.ranks.now.ports g c.free.new.self.at.items c.free-2.new.self.at.items c.free.new.self.waiting.ports
          c.free-2.new.self.waiting.ports x.second) is c.free-2.ensures.freed;
    } in
    subst (λ (x : Ranked). IsBoard c.args.ranks.now.ports g (set (set c.free-2.new.self.at.items x.first h) x.second h)) (sym is)
    (placed_board c.args.ranks.now.ports g c.args.self.now.at.items c.free.new.self.at.items c.free-2.new.self.at.items c.args.self.now.waiting.ports c.free.new.self.waiting.ports
    c.free-2.new.self.waiting.ports h cleared)

pub returns-clause-placed : goal.returns-clause-placed
returns-clause-placed c =
    let g = graph_of c.args.ranks.now in
    let h = c.args.rank in
    let is : c.index-flow.result.now ≡ ranked_at c.args.ranks.now.flows.items h =
    c.index-flow.ensures ∙ get_or_default c.args.ranks.now.flows.items h c.index-flow.result.now record {
      first = 0;
      second = 0;
      number = 0;
    } (omega (arith, c.requires.rank, c.requires.ranks.fits)) in
    let cleared : IsCleared c.args.ranks.now.ports g c.args.self.now.at.items c.free.new.self.at.items c.free-2.new.self.at.items c.args.self.now.waiting.ports
    c.free.new.self.waiting.ports c.free-2.new.self.waiting.ports h = record {
      graph = c.requires.ranks.graph;
      known = c.requires.rank;
      low_first = c.requires.first;
      low_second = c.requires.second;
      board = c.requires.board;
      between = c.free.ensures.board;
      now = c.free-2.ensures.board;
      first = subst (λ (x : Ranked). IsFreed c.args.ranks.now.ports g c.args.self.now.at.items c.free.new.self.at.items c.args.self.now.waiting.ports c.free.new.self.waiting.ports
          x.first) is c.free.ensures.freed;
      second = subst (λ (x : Ranked). IsFreed c.args.ranks.now.ports g c.free.new.self.at.items c.free-2.new.self.at.items c.free.new.self.waiting.ports
          c.free-2.new.self.waiting.ports x.second) is c.free-2.ensures.freed;
    } in
    subst (λ (x : Ranked). IsPlaced g c.args.self.now.at.items (set (set c.free-2.new.self.at.items x.first h) x.second h) c.args.self.now.waiting.ports
    c.free-2.new.self.waiting.ports h) (sym is)
    (placed c.args.ranks.now.ports g c.args.self.now.at.items c.free.new.self.at.items c.free-2.new.self.at.items c.args.self.now.waiting.ports c.free.new.self.waiting.ports
    c.free-2.new.self.waiting.ports h cleared)
