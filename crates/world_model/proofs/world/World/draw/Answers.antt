use Rattle.std.proofs.Common.{rules, ◌≡◌, ◌∙◌, ◌<◌, subst, sym, refl}
use Rattle.std.specs.Prelude.{slice_set}
use Rattle.world_model.specs.World.{WorldFacts, world_facts}
use Rattle.world_model.specs.Steps.{world_after}
use Rattle.world_model.specs.Lawful.{IsWorld}
use Rattle.world_model.specs.declared.event.Event.TheVariants.{Draw}
use Rattle.world_model.specs.declared.port.Stage.TheVariants.{Drawn}
use Rattle.world_model.proofs.Events.{draw_keeps}
use Rattle.world_model.proofs.Fields.{drawn_world, may_draw, stepped, tells_stays}
use Rattle.world_model.proofs.world.World.draw.Goals as goal

pub invariant_of-self : goal.invariant_of-self
invariant_of-self c =
    let i = c.self.inside in
    let w = world_facts i.master i.agents i.ports.items i.sent.items in
    let low : c.args.port < i.master.opening.table.ports = search rules in
    let few : c.args.agent < i.agents = search rules in
    let waits = sym c.is_granted.ensures ∙ c.if-not-is_granted.false in
    let may = may_draw i.master i.agents i.ports.items i.sent.items c.args.agent c.args.port c.index.result.now c.self.invariant.0 low few c.index.ensures waits in
    let x = c.index_mut.result.now in (
      subst IsWorld (sym (drawn_world i.master i.agents i.ports.items i.sent.items c.args.agent c.args.port x c.self.invariant.0 low c.index_mut.ensures.value))
          (draw_keeps w c.args.agent c.args.port c.self.invariant.0 may),
      tells_stays i.master i.agents i.ports.items i.sent.items c.args.port x (record x { stage = Drawn c.args.agent }) c.self.invariant.0 c.self.invariant.1 low
          c.index_mut.ensures.value refl refl,
    )

pub returns-clause-world : goal.returns-clause-world
returns-clause-world c =
    let i = c.self.inside in
    let w = world_facts i.master i.agents i.ports.items i.sent.items in
    let low : c.args.port < i.master.opening.table.ports = search rules in
    let few : c.args.agent < i.agents = search rules in
    let waits = sym c.is_granted.ensures ∙ c.if-not-is_granted.false in
    let may = may_draw i.master i.agents i.ports.items i.sent.items c.args.agent c.args.port c.index.result.now c.self.invariant.0 low few c.index.ensures waits in
    let is = drawn_world i.master i.agents i.ports.items i.sent.items c.args.agent c.args.port c.index_mut.result.now c.self.invariant.0 low c.index_mut.ensures.value in
    let x = c.index_mut.result.now in
    subst (λ (v : WorldFacts). world_facts i.master i.agents (slice_set i.ports.items c.args.port (record x { stage = Drawn c.args.agent })) i.sent.items ≡
    world_after v (Draw c.args.agent c.args.port)) c.self.view_is
    (stepped w (world_facts i.master i.agents (slice_set i.ports.items c.args.port (record x { stage = Drawn c.args.agent })) i.sent.items) (Draw c.args.agent c.args.port) may is)
