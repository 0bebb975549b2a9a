use Rattle.std.proofs.Common.{rules, ◌∷◌, Some, sym, ap, ◌∙◌, subst}
use Rattle.atomic_table.specs.Table.{rest}
use Rattle.turnstile.specs.Tickets.{IsNumbered}
use Rattle.turnstile.proofs.TurnSteps.{looks_on}
use Rattle.turnstile.proofs.steps.wait_for.Goals as goal

pub load-serving-requires : goal.load-serving-requires
load-serving-requires g c = let w = c.requires.waits in let same = c.loop.invariant.2 in (
  search rules,
  search rules,
  looks_on _ _ _ _ _ _ _ w.2.0 (search rules) (subst (λ m. IsNumbered m.0.role) (sym same) w.0) (ap (λ m. m.0.stage) same ∙ w.2.1),
)

pub exchange-requires : goal.exchange-requires
exchange-requires g c =
    let w = c.requires.waits in
    let same = c.loop.invariant.2 in
    let took = (c.load-serving.ensures.2 w.2.0 (ap (λ m. m.0.stage) same ∙ w.2.1)).0 (c.if-serving-ticket.true ∙ w.2.2) in
    let p = ap (λ m. m.1) took.1.0 in
    (search rules, (Some took.0, p ∙ ap (λ l. (0, Some took.0) ∷ rest l) (sym p)))
