use Rattle.std.proofs.Common.{◌≡◌, ◌+◌, length, subst, sym, ap, ◌∙◌, arith}
use Rattle.matching.specs.Board.{graph_of}
use Rattle.matching.specs.Heads.{IsChain, IsHeads, from_on}
use Rattle.matching.specs.Rows.{IsRows}
use Rattle.matching.proofs.HeadSteps.{heads_all, no_heads, no_chain}
use Rattle.matching.proofs.heads.Heads.fill.Goals as goal

pub loop-rank-init : goal.loop-rank-init
loop-rank-init c =
    let g = graph_of c.args.ranks.now in
    record {
      low = omega arith;
      size = ap (λ x. length x.items) c.clear.ensures.next;
      heads = no_heads c.args.ranks.now.ports g c.clear.new.self.least.items c.requires.ranks.graph (c.clear.ensures.size ∙ c.requires.size) c.clear.ensures.none;
      chain = subst (λ x. IsChain g x.items c.args.ranks.now.count) (sym c.clear.ensures.next) (no_chain g c.args.self.now.next.items c.requires.room);
      rows = subst (λ x. IsRows c.args.ranks.now.ports g (λ r. r + 1) x) (sym c.clear.ensures.rows) c.fill.ensures.rows;
    }

pub loop-rank-preserved : goal.loop-rank-preserved
loop-rank-preserved c =
    let i = c.loop-rank.invariant in
    let e = c.put_before.ensures in
    record {
      low = omega (arith, i.low);
      size = e.size ∙ i.size;
      heads = e.heads;
      chain = e.chain;
      rows = subst (λ x. IsRows c.args.ranks.now.ports (graph_of c.args.ranks.now) (λ r. r + 1) x) (sym e.rows) i.rows;
    }

pub returns : goal.returns
returns c =
    let g = graph_of c.args.ranks.now in
    let ports = c.args.ranks.now.ports in
    let i = c.loop-rank.invariant in
    let done : c.loop-rank.rank ≡ 0 = omega (arith, c.loop-rank-test.false) in
    record {
      size = i.size;
      heads = heads_all ports g c.loop-rank.self.least.items (subst (λ k. IsHeads ports g (from_on k) c.loop-rank.self.least.items) done i.heads);
      chain = subst (λ k. IsChain g c.loop-rank.self.next.items k) done i.chain;
      rows = i.rows;
    }
