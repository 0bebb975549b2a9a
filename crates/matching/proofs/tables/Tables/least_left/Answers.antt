use Rattle.std.proofs.Common.{◌≡◌, ◌<◌, ◌+◌, inl, inr, length, get_or, sym, ap, ◌∙◌, arith}
use Rattle.std.proofs.lemmas.List.{get_or_default}
use Rattle.matching.specs.Board.{graph_of, no_rank}
use Rattle.matching.specs.Sound.{left_at}
use Rattle.matching.proofs.BoardSteps.{stands_at}
use Rattle.matching.proofs.RunSteps.{IsLesser, least_begins, least_is, least_skips, least_takes}
use Rattle.matching.proofs.SourceSteps.{IsAmongFirst, among_all, first_more, none_first}
use Rattle.matching.proofs.tables.Tables.least_left.Goals.{then-least-eq0, else-least-eq0}
use Rattle.matching.proofs.tables.Tables.least_left.Goals as goal

pub loop-ingress-init : goal.loop-ingress-init
loop-ingress-init c =
    let m = c.args.self.now in
    least_begins (graph_of m.ranks) (left_at m) m.board.at.items (IsAmongFirst m.ranks.sources.ports 0) (none_first m.ranks.sources.ports)

pub returns : goal.returns
returns c = λ flows line left s.
    let m = c.args.self.now in
    let xs = m.ranks.sources.ports in
    let k = c.loop-ingress.ingress-index in
    least_is flows line left m (IsAmongFirst xs k) c.loop-ingress.least
    (λ r lt. among_all xs k _ (omega (arith, c.loop-ingress-test.false, ap length c.list-ingress-items.ensures.ports)) (c.requires.ranks.sources r lt))
    c.requires.ranks c.requires.board s
    c.loop-ingress.invariant

pub loop-ingress-preserved-then-rank : goal.loop-ingress-preserved-then-rank
loop-ingress-preserved-then-rank c =
    let m = c.args.self.now in
    let s = c.requires in
    let xs = m.ranks.sources.ports in
    let k = c.loop-ingress.ingress-index in
    let n = get_or xs k 0 in
    let at = m.board.at.items in
    let list = c.list-ingress-items in
    let lt : k < length xs = omega (arith, c.loop-ingress-test.true, ap length list.ensures.ports) in
    let low : n < m.ranks.ports = omega (arith, list.ensures.within k 0 lt, s.ranks.source_room) in
    let at_n : get_or list.result.now k 0 ≡ n = ap (λ l. get_or l k 0) list.ensures.ports in
    let none : get_or at n 0 ≡ no_rank = ap (λ p. get_or at p 0) (sym at_n)
    ∙ sym (c.index-rank.ensures ∙ get_or_default at (get_or list.result.now k 0) c.index-rank.result.now 0 (omega (arith, at_n, low, s.board.size))) ∙ c.if-rank.true in
    least_skips (graph_of m.ranks) (left_at m) at (IsAmongFirst xs k) (IsAmongFirst xs (k + 1)) n c.loop-ingress.least (first_more xs k list.ensures.once lt)
    s.ranks.graph.few none c.loop-ingress.invariant

pub loop-ingress-preserved : goal.loop-ingress-preserved
loop-ingress-preserved c =
    let m = c.args.self.now in
    let g = graph_of m.ranks in
    let s = c.requires in
    let xs = m.ranks.sources.ports in
    let k = c.loop-ingress.ingress-index in
    let n = get_or xs k 0 in
    let list = c.list-ingress-items in
    let lt : k < length xs = omega (arith, c.loop-ingress-test.true, ap length list.ensures.ports) in
    let low : n < m.ranks.ports = omega (arith, list.ensures.within k 0 lt, s.ranks.source_room) in
    let r = c.index-rank.result.now in
    let at_n : get_or list.result.now k 0 ≡ n = ap (λ l. get_or l k 0) list.ensures.ports in
    let is : r ≡ get_or m.board.at.items n 0 = c.index-rank.ensures ∙ get_or_default m.board.at.items (get_or list.result.now k 0) r 0 (omega (arith, at_n, s.board.size, low))
    ∙ ap (λ p. get_or m.board.at.items p 0) at_n in
    let stands = (stands_at m.ranks.ports g m.board.at.items n r s.board (omega (arith, low)) c.if-rank.false (sym is)).0 in
    let left : c.index-left.result.now ≡ left_at m r = c.index-left.ensures ∙ get_or_default m.left.items r c.index-left.result.now 0 (omega (arith, stands.0, s.lefts)) in
    let how : IsLesser c.loop-ingress.least c.if-least-eq0.least (left_at m r) = elim c.if-least-eq0.branch [
      | then-least-eq0 w ↦ inl (w.if-least-eq0.true, omega (arith, w.least-is, left))
      | else-least-eq0 w ↦ inr (omega (arith, w.if-least-eq0.false), omega (arith, w.least-is, w.min-least.ensures, left))
    ] in
    least_takes m.ranks.ports g (left_at m) m.board.at.items (IsAmongFirst xs k) (IsAmongFirst xs (k + 1)) n c.loop-ingress.least c.if-least-eq0.least r
    (first_more xs k list.ensures.once lt) s.board low c.if-rank.false is (s.kept.owed r stands) how c.loop-ingress.invariant
