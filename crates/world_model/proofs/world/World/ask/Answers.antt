use Rattle.std.proofs.Common.{rules, ◌≡◌, subst, true}
use Rattle.world_model.specs.World.{WorldFacts, world_facts}
use Rattle.world_model.specs.Guards.{can}
use Rattle.world_model.specs.Steps.{asks}
use Rattle.world_model.specs.Lawful.{IsWorld}
use Rattle.world_model.specs.declared.event.Event.TheVariants.{Ask}
use Rattle.world_model.proofs.Events.{ask_keeps}
use Rattle.world_model.proofs.world.World.ask.Goals as goal

pub carry_out-requires-clause-keeps : goal.carry_out-requires-clause-keeps
carry_out-requires-clause-keeps c =
    let i = c.self.inside in
    let w = world_facts i.master i.agents i.ports.items i.sent.items in
    let may : can w (Ask c.args.who c.args.command) ≡ true = search rules in
    subst (λ (v : WorldFacts). IsWorld (asks v c.args.who c.args.command)) c.self.view_is (ask_keeps w c.args.who c.args.command c.self.invariant.0 may)
