use Rattle.std.proofs.Common.{rules, ◌∷◌, Some, sym, ap, ◌∙◌}
use Rattle.atomic_table.specs.Table.{rest}
use Rattle.errands.proofs.Steps.{takes_on}
use Rattle.errands.proofs.tray.Tray.take.Goals as goal

pub compare_exchange-found-requires : goal.compare_exchange-found-requires
compare_exchange-found-requires g c = (search rules, search rules, takes_on _ _ _ _ _ _ c.helper.invariant.0)

pub exchange-requires : goal.exchange-requires
exchange-requires g c =
    let got = c.compare_exchange-found.ensures.2.0 c.if-found-ne-LIES.false in
    let took = ap (λ m. m.1) got.2 in
    (search rules, (Some got.0, took ∙ ap (λ l. (0, Some got.0) ∷ rest l) (sym took)))
