use Rattle.std.proofs.Common.{rules, ◌∷◌, Some, None, sym, ap, ◌∙◌, subst}
use Rattle.errands.proofs.Ends.{giver_free}
use Rattle.atomic_table.specs.Table.{rest}
use Rattle.errands.proofs.Steps.{gives_on}
use Rattle.errands.proofs.tray.Tray.give.Goals as goal

pub exchange-requires : goal.exchange-requires
exchange-requires g c =
    let free = giver_free c.giver.inside.place.me.0.stage c.giver.inside.place.me.1 c.giver.invariant.1 (
      ap (λ e. e.out) c.giver.view_is ∙ c.requires.free.0,
      ap (λ e. e.over) c.giver.view_is ∙ c.requires.free.1,
    ) in
    (search rules, (None, free.1 ∙ ap (λ l. (0, None) ∷ rest l) (sym free.1)))

pub store-requires : goal.store-requires
store-requires g c =
    let free = giver_free c.giver.inside.place.me.0.stage c.giver.inside.place.me.1 c.giver.invariant.1 (
      ap (λ e. e.out) c.giver.view_is ∙ c.requires.free.0,
      ap (λ e. e.over) c.giver.view_is ∙ c.requires.free.1,
    ) in
    let e = c.exchange.ensures.3 in (
      search rules,
      search rules,
      gives_on _ _ _ _ _ _ c.args.value (ap (λ m. m.0.role) e ∙ c.giver.invariant.0) (ap (λ m. m.0.stage) e ∙ free.0) (ap (λ m. m.1) e
          ∙ ap (λ l. (0, Some c.args.value) ∷ rest l) free.1)
          (subst (λ k. g.T.Errand.fits k c.args.value) (sym (ap (λ m. m.0.about) e ∙ ap (λ z. z.about) c.giver.view_is)) c.requires.fits),
    )
