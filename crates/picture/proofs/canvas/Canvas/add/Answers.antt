use Rattle.std.proofs.Common.{◌≡◌, ◌++◌, ◌∙◌, [], ◌∷◌, ap, cond, ltb, lt-ltb, subst}
use Rattle.std.proofs.lemmas.List.{get_or_default}
use Rattle.picture.specs.Drawing.{IsApart, IsJoined, row_at}
use Rattle.picture.proofs.Keeping.{keeps_begun, keeps_joined}
use Rattle.picture.proofs.canvas.Canvas.add.Goals as goal

pub returns-then-join-clause-added : goal.returns-then-join-clause-added
returns-then-join-clause-added c =
    let rows = c.args.self.now.rows.items in
    let port = c.args.port in
    let row_is : c.index_mut-row.result.now ≡ row_at rows port = c.index_mut-row.ensures.value ∙ get_or_default rows port c.index_mut-row.result.now [] c.requires.port in
    λ all k. keeps_joined all rows c.args.self.now.count port c.args.stretch c.join.new.self k c.requires.port
    (subst (λ r. IsJoined r c.args.stretch c.join.new.self) row_is c.if-join.ensures)

pub returns-clause-added : goal.returns-clause-added
returns-clause-added c =
    let rows = c.args.self.now.rows.items in
    let port = c.args.port in
    let count = c.args.self.now.count in
    let row_is : c.index_mut-row.result.now ≡ row_at rows port = c.index_mut-row.ensures.value ∙ get_or_default rows port c.index_mut-row.result.now [] c.requires.port in
    let new_is : c.begin.new.self ≡ cond (ltb count 262144) (row_at rows port) [] ++ c.args.stretch ∷ [] =
    c.in_ok-begin.ensures ∙ ap (λ l. cond (ltb count 262144) l [] ++ c.args.stretch ∷ []) (c.if-join.ensures.0 ∙ row_is) in
    λ all k. keeps_begun all rows count c.saturating_add-self.result port c.args.stretch (ltb count 262144) c.begin.new.self k c.requires.port
    (subst (λ r. IsApart r c.args.stretch) row_is c.if-join.ensures.1) (λ lt. lt-ltb count 262144 lt) new_is c.saturating_add-self.ensures
