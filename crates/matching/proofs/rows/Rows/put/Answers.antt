use Rattle.std.proofs.Common.{◌≡◌, ◌+◌, ◌-◌, ◌*◌, ◌/◌, ◌%◌, ◌^◌, ◌<◌, get_or, refl, ap, ◌∙◌, arith, length}
use Rattle.std.specs.Prelude.{bit_or, slice_set}
use Rattle.std.proofs.lemmas.Grind.{get_or_default_zero}
use Rattle.std.proofs.lemmas.List.{get_or_default}
use Rattle.std.specs.Vec.{with_item}
use Rattle.matching.specs.declared.ranks.Ranked.{Ranked}
use Rattle.matching.specs.declared.rows.Rows.{Rows}
use Rattle.matching.specs.Board.{graph_of, ranked_at}
use Rattle.matching.proofs.BitSteps.{place_in, set_in}
use Rattle.matching.proofs.RowSteps.{IsMarked, marked_last, rank_marked}
use Rattle.matching.proofs.rows.Rows.put.Goals as goal

pub index_mut-requires : goal.index_mut-requires
index_mut-requires c =
    let old = c.args.self.now in
    let g = graph_of c.args.ranks.now in
    let ports = c.args.ranks.now.ports in
    let rank = c.args.rank in
    let flow_is : c.index.result.now ≡ ranked_at c.args.ranks.now.flows.items c.args.rank =
    c.index.ensures ∙ get_or_default c.args.ranks.now.flows.items c.args.rank c.index.result.now record { first = 0; second = 0; number = 0 }
    (omega (arith, c.requires.rank, c.requires.ranks.fits)) in
    let across = c.index.result.now.second - ports in
    let at_rank : g.second rank ≡ ports + across = omega (arith, ap (λ (x : Ranked). x.second) flow_is, c.requires.ranks.graph.second_from rank c.requires.rank) in
    let low : across < 64 * old.width = omega (arith, at_rank, c.requires.ranks.graph.second rank c.requires.rank, c.requires.rows.shape.wide) in
    omega (
      arith,
      place_in old.width (old.count - 1) across (length old.first.items) (omega (arith, c.requires.open.some, c.requires.rows.fits)) low,
      c.requires.rows.shape.words,
    )

pub returns-clause-rows : goal.returns-clause-rows
returns-clause-rows c =
    let old = c.args.self.now in
    let g = graph_of c.args.ranks.now in
    let ports = c.args.ranks.now.ports in
    let rank = c.args.rank in
    let flow_is : c.index.result.now ≡ ranked_at c.args.ranks.now.flows.items c.args.rank =
    c.index.ensures ∙ get_or_default c.args.ranks.now.flows.items c.args.rank c.index.result.now record { first = 0; second = 0; number = 0 }
    (omega (arith, c.requires.rank, c.requires.ranks.fits)) in
    let across = c.index.result.now.second - ports in
    let at_rank : g.second rank ≡ ports + across = omega (arith, ap (λ (x : Ranked). x.second) flow_is, c.requires.ranks.graph.second_from rank c.requires.rank) in
    let low : across < 64 * old.width = omega (arith, at_rank, c.requires.ranks.graph.second rank c.requires.rank, c.requires.rows.shape.wide) in
    let k = old.count - 1 in
    let place = k * old.width + across / 64 in
    let lk : k < length old.first.items = omega (arith, c.requires.open.some, c.requires.rows.fits) in
    let inside : place < length old.owes.items = omega (arith, place_in old.width k across (length old.first.items) lk low, c.requires.rows.shape.words) in
    let word : c.index_mut.result.now ≡ get_or old.owes.items place 0 = c.index_mut.ensures.value ∙ get_or_default_zero old.owes.items place c.index_mut.result.now inside in
    let new : Rows = record {
      width = old.width;
      count = old.count;
      ranked = rank + 1;
      first = old.first;
      row = with_item old.row rank k;
      owes = with_item old.owes place (bit_or c.index_mut.result.now (1 * 2 ^ (across % 64) % 2 ^ 64));
    } in
    let marked : IsMarked old new k across rank = record {
      width = refl;
      count = refl;
      ranked = refl;
      first = refl;
      row = refl;
      owes = ap (λ x. slice_set old.owes.items place (set_in x across)) word;
    } in
    rank_marked ports g (λ r. r + 1) old new k across rank c.requires.ranks.graph c.requires.rows marked c.requires.next c.requires.rank c.requires.room
    (omega (arith, c.requires.open.some)) at_rank (omega arith) c.requires.open

pub returns-clause-last : goal.returns-clause-last
returns-clause-last c =
    let old = c.args.self.now in
    let g = graph_of c.args.ranks.now in
    let ports = c.args.ranks.now.ports in
    let rank = c.args.rank in
    let flow_is : c.index.result.now ≡ ranked_at c.args.ranks.now.flows.items c.args.rank =
    c.index.ensures ∙ get_or_default c.args.ranks.now.flows.items c.args.rank c.index.result.now record { first = 0; second = 0; number = 0 }
    (omega (arith, c.requires.rank, c.requires.ranks.fits)) in
    let across = c.index.result.now.second - ports in
    let at_rank : g.second rank ≡ ports + across = omega (arith, ap (λ (x : Ranked). x.second) flow_is, c.requires.ranks.graph.second_from rank c.requires.rank) in
    let low : across < 64 * old.width = omega (arith, at_rank, c.requires.ranks.graph.second rank c.requires.rank, c.requires.rows.shape.wide) in
    let k = old.count - 1 in
    let place = k * old.width + across / 64 in
    let lk : k < length old.first.items = omega (arith, c.requires.open.some, c.requires.rows.fits) in
    let inside : place < length old.owes.items = omega (arith, place_in old.width k across (length old.first.items) lk low, c.requires.rows.shape.words) in
    let word : c.index_mut.result.now ≡ get_or old.owes.items place 0 = c.index_mut.ensures.value ∙ get_or_default_zero old.owes.items place c.index_mut.result.now inside in
    let new : Rows = record {
      width = old.width;
      count = old.count;
      ranked = rank + 1;
      first = old.first;
      row = with_item old.row rank k;
      owes = with_item old.owes place (bit_or c.index_mut.result.now (1 * 2 ^ (across % 64) % 2 ^ 64));
    } in
    let marked : IsMarked old new k across rank = record {
      width = refl;
      count = refl;
      ranked = refl;
      first = refl;
      row = refl;
      owes = ap (λ x. slice_set old.owes.items place (set_in x across)) word;
    } in
    marked_last ports g (λ r. r + 1) old new k across rank c.requires.ranks.graph c.requires.rows marked c.requires.next c.requires.room (omega (arith, c.requires.open.some))
