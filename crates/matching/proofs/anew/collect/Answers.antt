use Rattle.std.proofs.Common.{◌≡◌, ◌<◌, ◌+◌, ℕ, [], ◌∷◌, ◌++◌, List, inl, inr, get_or, length, sym, subst, ◌∙◌, arith}
use Rattle.std.proofs.lemmas.Grind.{common_steps}
use Rattle.std.proofs.lemmas.List.{get_or_default}
use Rattle.matching.specs.declared.listing.Listed.{Listed}
use Rattle.matching.specs.declared.ranks.Ranked.{Ranked}
use Rattle.matching.specs.Board.{ranked_at}
use Rattle.matching.specs.Listing.{IsCollected}
use Rattle.matching.proofs.AnewSteps.{collect_skips, collect_takes}
use Rattle.matching.proofs.anew.collect.Goals as goal

pub loop-port-preserved-then-rank : goal.loop-port-preserved-then-rank
loop-port-preserved-then-rank c =
    let i = c.loop-port.invariant in
    record {
      room = i.room;
      within = omega (arith, i.within);
      collected = collect_skips c.args.ranks.now c.args.at.now c.loop-port.port c.loop-port.pairs.items c.requires.ranks.graph.few c.if-rank.true i.collected;
    }

pub loop-port-preserved : goal.loop-port-preserved
loop-port-preserved c =
    let i = c.loop-port.invariant in
    let ranks = c.args.ranks.now in
    let at = c.args.at.now in
    let n = c.loop-port.port in
    let r = get_or at n 0 in
    let lt : n < length at = omega (arith, c.loop-port-test.true) in
    let known : r < ranks.count = elim (c.requires.side n lt) [ inl none ↦ absurd (c.if-rank.false none) | inr (low, _) ↦ low ] in
    let flow_is : c.index.result.now ≡ ranked_at ranks.flows.items r = c.index.ensures
    ∙ get_or_default ranks.flows.items r c.index.result.now record { first = 0; second = 0; number = 0 } (omega (arith, known, c.requires.ranks.fits)) in
    let pair : Listed = record { flow = c.index.result.now.number; port = n } in
    let items : c.push-pair.new.self.items ≡ c.loop-port.pairs.items ++ pair ∷ [] = grind (arith, common_steps) in
    record {
      room = omega (arith, i.room, c.push-pair.ensures.capacity);
      within = omega (arith, i.within, c.push-pair.ensures.upper_bound);
      collected = subst (λ (xs : List Listed). IsCollected ranks at (λ p. p < n + 1) xs) (sym items)
          (subst (λ (x : Ranked). IsCollected ranks at (λ p. p < n + 1) (c.loop-port.pairs.items ++ record { flow = x.number; port = n } ∷ [])) (sym flow_is)
          (collect_takes ranks at n c.loop-port.pairs.items c.requires.ranks c.requires.side lt known i.collected));
    }

pub returns-clause-collected : goal.returns-clause-collected
returns-clause-collected c =
    let all : c.loop-port.port ≡ length c.args.at.now = omega (arith, c.loop-port-test.false, c.loop-port.auto.port-end) in
    subst (λ (n : ℕ). IsCollected c.args.ranks.now c.args.at.now (λ p. p < n) c.loop-port.pairs.items) all c.loop-port.invariant.collected
