use Rattle.std.proofs.Common.{◌∙◌, sym, ap, refl}
use Rattle.port_board.specs.declared.view.Kind.TheVariants.{Agent}
use Rattle.port_board.specs.Views.{number_of}
use Rattle.port_board.proofs.AgentSteps.{M}
use Rattle.port_board.proofs.board.tests.an_agent_that_loaded_first_may_miss.Goals as goal

pub exchange-two-requires-clause-agent : goal.exchange-two-requires-clause-agent
exchange-two-requires-clause-agent g c =
    let kind = ap (λ (m : M). m.0.kind) (c.in-Ok-look.ensures.granted _ refl).1 in kind ∙ (c.second.invariant.2 ∙ ap (λ k. Agent (number_of k)) (sym kind))

pub exchange-two-requires-clause-loaded : goal.exchange-two-requires-clause-loaded
exchange-two-requires-clause-loaded g c = let e = c.in-Ok-look.ensures.granted _ refl in (ap (λ (m : M). m.0.step) e.1, e.0)
