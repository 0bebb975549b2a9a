use Rattle.std.proofs.Common.{rules, ◌∷◌, Some, sym, ap, ◌∙◌}
use Rattle.errands.proofs.Ends.{giver_busy}
use Rattle.atomic_table.specs.Table.{rest}
use Rattle.errands.proofs.Steps.{recalls_on}
use Rattle.errands.proofs.tray.Tray.recall.Goals as goal

pub compare_exchange-found-requires : goal.compare_exchange-found-requires
compare_exchange-found-requires g c =
    let busy = giver_busy c.giver.inside.place.me.0.stage c.giver.inside.place.me.1 c.requires.given.0 c.giver.invariant.1 (ap (λ e. e.out) c.giver.view_is ∙ c.requires.given.1) in
    (search rules, search rules, recalls_on _ _ _ _ _ _ c.requires.given.0 c.giver.invariant.0 busy.0 busy.1)

pub exchange-requires : goal.exchange-requires
exchange-requires g c =
    let busy = giver_busy c.giver.inside.place.me.0.stage c.giver.inside.place.me.1 c.requires.given.0 c.giver.invariant.1 (ap (λ e. e.out) c.giver.view_is ∙ c.requires.given.1) in
    let took = ap (λ m. m.1) ((c.compare_exchange-found.ensures.2 c.requires.given.0 busy.0).0 c.if-found-ne-LIES.false) in
    (search rules, (Some c.requires.given.0, took ∙ ap (λ l. (0, Some c.requires.given.0) ∷ rest l) (sym took)))
