use Rattle.std.proofs.Common.{◌≡◌, ◌+◌, ◌-◌, ◌*◌, ◌/◌, ◌%◌, ◌^◌, ◌<◌, get_or, refl, ap, subst, ◌∙◌, arith, length, w64}
use Rattle.std.specs.Prelude.{bit_and, slice_set}
use Rattle.std.specs.Int.{bit_not}
use Rattle.std.proofs.lemmas.Grind.{get_or_default_zero}
use Rattle.std.proofs.lemmas.List.{get_or_default}
use Rattle.std.specs.Vec.{with_item}
use Rattle.matching.specs.declared.ranks.Ranked.{Ranked}
use Rattle.matching.specs.declared.rows.Rows.{Rows}
use Rattle.matching.specs.Board.{graph_of, ranked_at}
use Rattle.matching.specs.Rows.{row_of}
use Rattle.matching.proofs.BitSteps.{cleared_in, place_in}
use Rattle.matching.proofs.RowSteps.{IsCleared, rank_cleared}
use Rattle.matching.proofs.rows.Rows.end.Goals as goal

pub returns : goal.returns
returns c = record {
  rows = λ left lower ended others w.
      let old = c.args.self.now in
      let g = graph_of c.args.ranks.now in
      let ports = c.args.ranks.now.ports in
      let rank = c.args.rank in
      let flow_is : c.index.result.now ≡ ranked_at c.args.ranks.now.flows.items c.args.rank =
      c.index.ensures ∙ get_or_default c.args.ranks.now.flows.items c.args.rank c.index.result.now record { first = 0; second = 0; number = 0 }
      (omega (arith, c.requires.rank, c.requires.ranks.fits)) in
      let known : rank < old.ranked = omega (arith, c.if-rank-self.false) in
      let row_is : c.index-2.result.now ≡ row_of old rank = c.index-2.ensures ∙ get_or_default_zero old.row.items rank c.index-2.result.now (omega (arith, known, w.known)) in
      let across = c.index.result.now.second - ports in
      let at_rank : g.second rank ≡ ports + across = omega (arith, ap (λ (x : Ranked). x.second) flow_is, c.requires.ranks.graph.second_from rank c.requires.rank) in
      let low : across < 64 * old.width = omega (arith, at_rank, c.requires.ranks.graph.second rank c.requires.rank, w.shape.wide) in
      let k = c.index-2.result.now in
      let place = k * old.width + across / 64 in
      let lk : k < length old.first.items = omega (arith, row_is, w.row rank known, w.fits) in
      let inside : place < length old.owes.items = omega (arith, place_in old.width k across (length old.first.items) lk low, w.shape.words) in
      let word : c.index_mut.result.now ≡ get_or old.owes.items place 0 = c.index_mut.ensures.value ∙ get_or_default_zero old.owes.items place c.index_mut.result.now inside in
      let new : Rows = record {
        width = old.width;
        count = old.count;
        ranked = old.ranked;
        first = old.first;
        row = old.row;
        owes = with_item old.owes place (bit_and c.index_mut.result.now (bit_not w64 (1 * 2 ^ (across % 64) % 2 ^ 64)));
      } in
      let cleared : IsCleared old new k across = record {
        width = refl;
        count = refl;
        ranked = refl;
        first = refl;
        row = refl;
        owes = ap (λ x. slice_set old.owes.items place (cleared_in x across)) word;
      } in
      rank_cleared ports g left lower old new across rank c.requires.ranks.graph w known at_rank ended others (subst (λ j. IsCleared old new j across) row_is cleared);
}

pub index_mut-requires : goal.index_mut-requires
index_mut-requires c =
    let old = c.args.self.now in
    let g = graph_of c.args.ranks.now in
    let ports = c.args.ranks.now.ports in
    let rank = c.args.rank in
    let w = c.requires.rows.1 in
    let flow_is : c.index.result.now ≡ ranked_at c.args.ranks.now.flows.items c.args.rank =
    c.index.ensures ∙ get_or_default c.args.ranks.now.flows.items c.args.rank c.index.result.now record { first = 0; second = 0; number = 0 }
    (omega (arith, c.requires.rank, c.requires.ranks.fits)) in
    let known : rank < old.ranked = omega (arith, c.if-rank-self.false) in
    let row_is : c.index-2.result.now ≡ row_of old rank = c.index-2.ensures ∙ get_or_default_zero old.row.items rank c.index-2.result.now (omega (arith, known, w.known)) in
    let across = c.index.result.now.second - ports in
    let at_rank : g.second rank ≡ ports + across = omega (arith, ap (λ (x : Ranked). x.second) flow_is, c.requires.ranks.graph.second_from rank c.requires.rank) in
    let low : across < 64 * old.width = omega (arith, at_rank, c.requires.ranks.graph.second rank c.requires.rank, w.shape.wide) in
    let k = c.index-2.result.now in
    let lk : k < length old.first.items = omega (arith, row_is, w.row rank known, w.fits) in
    omega (arith, place_in old.width k across (length old.first.items) lk low, w.shape.words)
