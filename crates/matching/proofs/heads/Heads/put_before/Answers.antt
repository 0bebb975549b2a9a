use Rattle.std.proofs.Common.{◌≡◌, ◌<◌, ◌+◌, ◌-◌, ◌*◌, inl, refl, get_or, subst, sym, ap, ◌∙◌, arith}
use Rattle.std.proofs.lemmas.List.{get_or_default}
use Rattle.matching.specs.declared.ranks.Ranked.{Ranked}
use Rattle.matching.specs.Board.{ranked_at, graph_of}
use Rattle.matching.specs.Heads.{IsChain, IsNext, IsReplaced, head_at}
use Rattle.matching.proofs.HeadSteps.{IsPair, place_first, filled_heads, head_is_next, next_chain}
use Rattle.matching.proofs.SettleSteps.{opposite_first}
use Rattle.matching.proofs.heads.Heads.put_before.Goals as goal

pub index-requires : goal.index-requires
index-requires c =
    let g = graph_of c.args.ranks.now in
    let k = c.requires.ranks in
    let is : c.index-flow.result.now ≡ ranked_at c.args.ranks.now.flows.items c.args.rank =
    c.index-flow.ensures ∙ get_or_default c.args.ranks.now.flows.items c.args.rank c.index-flow.result.now record {
      first = 0;
      second = 0;
      number = 0;
    } (omega (arith, c.requires.rank, k.fits)) in
    let a = ap (λ (x : Ranked). x.first) is in
    let b = ap (λ (x : Ranked). x.second) is in
    let pair : IsPair c.args.ranks.now.ports c.index-flow.result.now.first c.index-flow.result.now.second = record {
      first_low = omega (arith, a, k.graph.first c.args.rank c.requires.rank);
      second_from = omega (arith, b, k.graph.second_from c.args.rank c.requires.rank);
      second_low = omega (arith, b, k.graph.second c.args.rank c.requires.rank);
    } in
    omega (arith, place_first c.args.ranks.now.ports c.index-flow.result.now.first c.index-flow.result.now.second pair, c.requires.heads.size)

pub replace-requires-clause-first : goal.replace-requires-clause-first
replace-requires-clause-first c =
    let k = c.requires.ranks in
    let is : c.index-flow.result.now ≡ ranked_at c.args.ranks.now.flows.items c.args.rank =
    c.index-flow.ensures ∙ get_or_default c.args.ranks.now.flows.items c.args.rank c.index-flow.result.now record {
      first = 0;
      second = 0;
      number = 0;
    } (omega (arith, c.requires.rank, k.fits)) in
    omega (arith, ap (λ (x : Ranked). x.first) is, k.graph.first c.args.rank c.requires.rank)

pub replace-requires-clause-second : goal.replace-requires-clause-second
replace-requires-clause-second c =
    let k = c.requires.ranks in
    let is : c.index-flow.result.now ≡ ranked_at c.args.ranks.now.flows.items c.args.rank =
    c.index-flow.ensures ∙ get_or_default c.args.ranks.now.flows.items c.args.rank c.index-flow.result.now record {
      first = 0;
      second = 0;
      number = 0;
    } (omega (arith, c.requires.rank, k.fits)) in
    omega (arith, ap (λ (x : Ranked). x.second) is, k.graph.second c.args.rank c.requires.rank)

pub returns-clause-heads : goal.returns-clause-heads
returns-clause-heads c =
    let g = graph_of c.args.ranks.now in
    let k = c.requires.ranks in
    let ports = c.args.ranks.now.ports in
    let is : c.index-flow.result.now ≡ ranked_at c.args.ranks.now.flows.items c.args.rank =
    c.index-flow.ensures ∙ get_or_default c.args.ranks.now.flows.items c.args.rank c.index-flow.result.now record {
      first = 0;
      second = 0;
      number = 0;
    } (omega (arith, c.requires.rank, k.fits)) in
    let re = subst (λ (x : Ranked). IsReplaced ports c.args.self.now.least.items c.replace.new.self.least.items x.first x.second c.args.rank) is c.replace.ensures.replaced in
    filled_heads ports g c.args.rank c.args.self.now.least.items c.replace.new.self.least.items k.graph c.requires.rank c.replace.ensures.size re c.requires.heads

pub returns-clause-chain : goal.returns-clause-chain
returns-clause-chain c =
    let g = graph_of c.args.ranks.now in
    let k = c.requires.ranks in
    let ports = c.args.ranks.now.ports in
    let rank = c.args.rank in
    let old = c.args.self.now in
    let is : c.index-flow.result.now ≡ ranked_at c.args.ranks.now.flows.items rank =
    c.index-flow.ensures ∙ get_or_default c.args.ranks.now.flows.items rank c.index-flow.result.now record {
      first = 0;
      second = 0;
      number = 0;
    } (omega (arith, c.requires.rank, k.fits)) in
    let pair : IsPair ports (g.first rank) (g.second rank) = record {
      first_low = k.graph.first rank c.requires.rank;
      second_from = k.graph.second_from rank c.requires.rank;
      second_low = k.graph.second rank c.requires.rank;
    } in
    let across = g.second rank - ports in
    let lk : across < ports = omega (arith, pair.second_low, pair.second_from) in
    let place = ap (λ (x : Ranked). x.first * ports + (x.second - ports)) is in
    let head : c.index.result.now ≡ head_at ports old.least.items (g.first rank) across =
    c.index.ensures ∙ ap (λ i. get_or old.least.items i c.index.result.now) place ∙
    get_or_default old.least.items (g.first rank * ports + across) c.index.result.now 0
    (omega (arith, place_first ports (g.first rank) (g.second rank) pair, c.requires.heads.size)) in
    let next = head_is_next ports g rank (g.first rank) across (head_at ports old.least.items (g.first rank) across) k.graph c.requires.rank lk
    (inl (refl, omega (arith, opposite_first ports (g.first rank) across pair.first_low, pair.second_from)))
    (c.requires.heads.head (g.first rank) across (omega (arith, pair.first_low)) lk) in
    subst (λ x. IsChain g x.items rank) (sym c.replace.ensures.next)
    (next_chain g old.next.items rank c.index.result.now c.requires.rank (subst (λ x. IsNext g rank x) (sym head) next) c.requires.chain)
