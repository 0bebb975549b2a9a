use Rattle.std.proofs.Common.{◌≡◌, ◌+◌, refl, ap, subst, ◌∙◌, arith}
use Rattle.std.proofs.lemmas.List.{get_or_default}
use Rattle.std.specs.Vec.{with_item}
use Rattle.matching.specs.declared.ranks.Ranked.{Ranked}
use Rattle.matching.specs.declared.rows.Rows.{Rows}
use Rattle.matching.specs.Board.{graph_of, ranked_at}
use Rattle.matching.proofs.RowSteps.{IsOpened, last_row_takes, opened_takes, row_opened}
use Rattle.matching.proofs.rows.Rows.open.Goals as goal

pub overflow_add-self : goal.overflow_add-self
overflow_add-self c = omega (arith, c.if-self-len.false, c.requires.rows.shape.few, c.len.ensures)

pub returns-clause-rows : goal.returns-clause-rows
returns-clause-rows c =
    let old = c.args.self.now in
    let g = graph_of c.args.ranks.now in
    let flow_is : c.index.result.now ≡ ranked_at c.args.ranks.now.flows.items c.args.rank =
    c.index.ensures ∙ get_or_default c.args.ranks.now.flows.items c.args.rank c.index.result.now record { first = 0; second = 0; number = 0 }
    (omega (arith, c.requires.rank, c.requires.ranks.fits)) in
    let port_is : c.index.result.now.first ≡ g.first c.args.rank = ap (λ (x : Ranked). x.first) flow_is in
    let new : Rows = record {
      width = old.width;
      count = old.count + 1;
      ranked = old.ranked;
      first = with_item old.first old.count c.index.result.now.first;
      row = old.row;
      owes = old.owes;
    } in
    row_opened c.args.ranks.now.ports g (λ r. r + 1) old new c.index.result.now.first c.requires.rows (omega (arith, c.if-self-len.false, c.len.ensures))
    (omega (arith, port_is, c.requires.ranks.graph.first c.args.rank c.requires.rank))
    (record { width = refl; count = refl; ranked = refl; first = refl; row = refl; owes = refl })

pub returns-clause-open : goal.returns-clause-open
returns-clause-open c = λ _.
    let old = c.args.self.now in
    let g = graph_of c.args.ranks.now in
    let flow_is : c.index.result.now ≡ ranked_at c.args.ranks.now.flows.items c.args.rank =
    c.index.ensures ∙ get_or_default c.args.ranks.now.flows.items c.args.rank c.index.result.now record { first = 0; second = 0; number = 0 }
    (omega (arith, c.requires.rank, c.requires.ranks.fits)) in
    let port_is : c.index.result.now.first ≡ g.first c.args.rank = ap (λ (x : Ranked). x.first) flow_is in
    let new : Rows = record {
      width = old.width;
      count = old.count + 1;
      ranked = old.ranked;
      first = with_item old.first old.count c.index.result.now.first;
      row = old.row;
      owes = old.owes;
    } in
    opened_takes c.args.ranks.now.ports g (λ r. r + 1) old new c.args.rank c.requires.rows (omega (arith, c.if-self-len.false, c.len.ensures))
    (subst (λ p. IsOpened old new p) port_is (record { width = refl; count = refl; ranked = refl; first = refl; row = refl; owes = refl }))

pub returns-then-goes_on-clause-open : goal.returns-then-goes_on-clause-open
returns-then-goes_on-clause-open c = λ _.
    last_row_takes c.args.ranks.now.ports (graph_of c.args.ranks.now) (λ r. r + 1) c.args.self.now c.args.rank c.requires.rows c.requires.last c.requires.next
    (c.goes_on.ensures c.if-goes_on.true)
