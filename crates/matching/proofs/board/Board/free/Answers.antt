use Rattle.std.proofs.Common.{◌≡◌, ℕ, get_or, set, subst, sym, ap, ◌∙◌, arith}
use Rattle.std.specs.Prelude.{if◌then◌else◌, ◌==◌}
use Rattle.std.proofs.lemmas.List.{get_or_default}
use Rattle.matching.specs.declared.ranks.Ranked.{Ranked}
use Rattle.matching.specs.Waits.{IsPushed}
use Rattle.matching.specs.Board.{IsBoard, IsFreed, no_rank, ranked_at, graph_of}
use Rattle.matching.proofs.BoardSteps.{freed_board, freed, stands_at}
use Rattle.matching.proofs.board.Board.free.Goals as goal

pub returns-clause-board : goal.returns-clause-board
returns-clause-board c =
    let k = c.requires.ranks in
    let b = c.requires.board in
    let r = c.index-rank.result.now in
    let here : get_or c.args.self.now.at.items c.args.port 0 ≡ r = get_or_default c.args.self.now.at.items c.args.port 0 r (omega (arith, b.size, c.requires.port)) ∙
    sym c.index-rank.ensures in
    let stands = (stands_at c.args.ranks.now.ports (graph_of c.args.ranks.now) c.args.self.now.at.items c.args.port r b c.requires.port c.if-rank.false here).0 in
    let is : c.index-flow.result.now ≡ ranked_at c.args.ranks.now.flows.items r =
    c.index-flow.ensures ∙ get_or_default c.args.ranks.now.flows.items r c.index-flow.result.now record { first = 0; second = 0; number = 0 } (omega (arith, stands.0, k.fits))
    in
    subst (λ (x : Ranked). IsBoard c.args.ranks.now.ports (graph_of c.args.ranks.now) (set (set c.args.self.now.at.items x.first no_rank) x.second no_rank)) (sym is)
    (freed_board c.args.ranks.now.ports (graph_of c.args.ranks.now) c.args.self.now.at.items r k.graph b stands)

pub returns-clause-freed : goal.returns-clause-freed
returns-clause-freed c =
    let k = c.requires.ranks in
    let b = c.requires.board in
    let r = c.index-rank.result.now in
    let here : get_or c.args.self.now.at.items c.args.port 0 ≡ r = get_or_default c.args.self.now.at.items c.args.port 0 r (omega (arith, b.size, c.requires.port)) ∙
    sym c.index-rank.ensures in
    let stands = (stands_at c.args.ranks.now.ports (graph_of c.args.ranks.now) c.args.self.now.at.items c.args.port r b c.requires.port c.if-rank.false here).0 in
    let is : c.index-flow.result.now ≡ ranked_at c.args.ranks.now.flows.items r =
    c.index-flow.ensures ∙ get_or_default c.args.ranks.now.flows.items r c.index-flow.result.now record { first = 0; second = 0; number = 0 } (omega (arith, stands.0, k.fits))
    in
    let pushed = subst (λ (x : ℕ). IsPushed c.args.self.now.waiting.ports c.push.new.self.ports x)
    (c.across.ensures ∙ ap (λ (x : Ranked). if x.first == c.args.port then x.second else x.first) is) c.push.ensures.pushed in
    subst (λ (x : Ranked). IsFreed c.args.ranks.now.ports (graph_of c.args.ranks.now) c.args.self.now.at.items (set (set c.args.self.now.at.items x.first no_rank) x.second no_rank)
    c.args.self.now.waiting.ports c.push.new.self.ports c.args.port) (sym is)
    (freed c.args.ranks.now.ports (graph_of c.args.ranks.now) c.args.self.now.at.items c.args.self.now.waiting.ports c.push.new.self.ports c.args.port r k.graph b c.requires.port
    c.if-rank.false here pushed)
