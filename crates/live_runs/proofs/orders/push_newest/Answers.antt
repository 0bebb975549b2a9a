use Rattle.std.proofs.Common.{◌≡◌, ◌∷◌, ◌++◌, [], ℕ, List, true, false, map, subst, sym, ap, ◌∙◌}
use Rattle.std.specs.List.{slice_index_or}
use Rattle.flow_table.specs.Table.{TableFacts}
use Rattle.journal.specs.declared.command.Entry.{Entry}
use Rattle.journal.specs.Journal.{is_version, version_of}
use Rattle.live_model.specs.Printed.{id_of, told_order}
use Rattle.master_core.specs.Published.{ranked}
use Rattle.live_runs.specs.Retold.{TellOrders}
use Rattle.live_runs.proofs.OrdersTold.{orders_more, orders_stay}
use Rattle.live_runs.proofs.orders.push_newest.Goals as goal

pub returns-in_ok-push : goal.returns-in_ok-push
returns-in_ok-push c = λ before e is reply told.
    let o = c.args.master.now.opening in
    let journal = c.args.master.now.journal in
    let made : is_version e.reply ≡ true = ap is_version reply ∙ sym c.is_version.ensures ∙ c.if-is_version.true in
    let newest : c.from_vec.result ≡ told_order o journal (version_of journal) =
    c.from_vec.ensures ∙ c.in_ok-ids.ensures ∙ ap (λ (t : TableFacts). map (λ (x : ℕ). slice_index_or t.ids x 0) (ranked c.places.result.now)) c.table.ensures
    ∙ ap (map (id_of o)) c.places.ensures.order in
    subst (TellOrders o journal) (sym c.in_ok-push.ensures.items)
    (subst (λ (j : List Entry). TellOrders o j (c.args.orders.now.items ++ c.from_vec.result ∷ [])) (sym is)
    (orders_more o before e c.args.orders.now.items c.from_vec.result made told (newest ∙ ap (λ (j : List Entry). told_order o j (version_of j)) is)))

pub returns-else-is_version : goal.returns-else-is_version
returns-else-is_version c = λ before e is reply told.
    let none : is_version e.reply ≡ false = ap is_version reply ∙ sym c.is_version.ensures ∙ c.if-is_version.false in
    subst (λ (j : List Entry). TellOrders c.args.master.now.opening j c.args.orders.now.items) (sym is)
    (orders_stay c.args.master.now.opening before e c.args.orders.now.items none told)
