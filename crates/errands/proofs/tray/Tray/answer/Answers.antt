use Rattle.std.proofs.Common.{rules, ◌∷◌, Some, None, sym, ap, ◌∙◌, subst}
use Rattle.errands.proofs.Ends.{helper_busy}
use Rattle.atomic_table.specs.Table.{rest}
use Rattle.errands.proofs.Steps.{answers_on}
use Rattle.errands.proofs.tray.Tray.answer.Goals as goal

pub exchange-requires : goal.exchange-requires
exchange-requires g c =
    let busy = helper_busy c.helper.inside.place.me.0.stage c.helper.inside.place.me.1 c.requires.done.0 c.helper.invariant.1 (ap (λ e. e.out) c.helper.view_is
    ∙ c.requires.done.1) in
    (search rules, (None, busy.1 ∙ ap (λ l. (0, None) ∷ rest l) (sym busy.1)))

pub store-requires : goal.store-requires
store-requires g c =
    let busy = helper_busy c.helper.inside.place.me.0.stage c.helper.inside.place.me.1 c.requires.done.0 c.helper.invariant.1 (ap (λ e. e.out) c.helper.view_is
    ∙ c.requires.done.1) in
    let e = c.exchange.ensures.3 in (
      search rules,
      search rules,
      answers_on _ _ _ _ _ _ c.requires.done.0 c.args.value (ap (λ m. m.0.role) e ∙ c.helper.invariant.0) (ap (λ m. m.0.stage) e ∙ busy.0)
          (ap (λ m. m.1) e ∙ ap (λ l. (0, Some c.args.value) ∷ rest l) busy.1)
          (subst (λ k. g.T.Errand.done k c.requires.done.0 c.args.value) (sym (ap (λ m. m.0.about) e ∙ ap (λ z. z.about) c.helper.view_is)) c.requires.done.2),
    )
