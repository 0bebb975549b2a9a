use Rattle.std.proofs.Common.{rules, ◌∷◌, Some, sym, ap, ◌∙◌, subst}
use Rattle.atomic_table.specs.Table.{rest}
use Rattle.turnstile.specs.Tickets.{IsNumbered}
use Rattle.turnstile.specs.Tells.{MayLeave}
use Rattle.turnstile.proofs.TurnSteps.{leaves_on}
use Rattle.turnstile.proofs.steps.end_turn.Goals as goal

pub fetch_add-served-requires : goal.fetch_add-served-requires
fetch_add-served-requires g c =
    let e = c.exchange.ensures.3 in (
      search rules,
      search rules,
      leaves_on _ _ _ _ _ _ _ c.requires.turn.0 c.args.value
          (subst (λ m. IsNumbered m.0.role) (sym e) c.requires.holds.0)
          (ap (λ m. m.0.stage) e ∙ c.requires.turn.1)
          (ap (λ m. m.1) e ∙ ap (λ l. (0, Some c.args.value) ∷ rest l) c.requires.holds.1)
          (subst (λ m. MayLeave g.T.Chronicle.by g.T.Chronicle.entries g.T.Chronicle.setting m.0 c.args.value) (sym e) c.requires.value),
    )
