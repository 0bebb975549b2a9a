use Rattle.std.proofs.Common.{◌≡◌, ◌∙◌, subst, sym, true}
use Rattle.std.specs.Prelude.{slice_set}
use Rattle.world_model.specs.World.{WorldFacts, world_facts}
use Rattle.world_model.specs.Guards.{can}
use Rattle.world_model.specs.Steps.{world_after}
use Rattle.world_model.specs.Lawful.{IsWorld}
use Rattle.world_model.specs.declared.event.Event.TheVariants.{Report, Send}
use Rattle.world_model.proofs.Events.{send_keeps}
use Rattle.world_model.proofs.Fields.{send_step, stepped}
use Rattle.world_model.proofs.world.World.send.Goals as goal

pub invariant_of-self-2 : goal.invariant_of-self-2
invariant_of-self-2 c =
    let i = c.self.inside in
    let m = i.master in
    let xs = i.ports.items in
    let w = world_facts m i.agents xs i.sent.items in
    let p = c.args.port in
    let u = c.args.units in
    let new = c.push.new.self.items in
    let y = c.index_mut.result.now in
    let may : can w (Report c.args.agent p) ≡ true =
    subst (λ (v : WorldFacts). can v (Report c.args.agent p) ≡ true) (sym c.self.view_is) (sym c.is_drawn.ensures ∙ c.if-not-is_drawn.false) in
    let (sends, is, tells) = send_step m i.agents xs i.sent.items new c.args.agent p u c.index-post.result.now y c.self.invariant.0 c.self.invariant.1 may c.index-post.ensures
    c.index_mut.ensures.value c.if-post-gt0.false c.if-units-eq0.false c.if-units-post.false c.in-Ok.ensures.items in
    (subst IsWorld (sym is) (send_keeps w c.args.agent p u c.self.invariant.0 sends), tells)

pub returns-clause-world : goal.returns-clause-world
returns-clause-world c = λ no_memory.
    let i = c.self.inside in
    let m = i.master in
    let xs = i.ports.items in
    let w = world_facts m i.agents xs i.sent.items in
    let p = c.args.port in
    let u = c.args.units in
    let new = c.push.new.self.items in
    let y = c.index_mut.result.now in
    let may : can w (Report c.args.agent p) ≡ true =
    subst (λ (v : WorldFacts). can v (Report c.args.agent p) ≡ true) (sym c.self.view_is) (sym c.is_drawn.ensures ∙ c.if-not-is_drawn.false) in
    let (sends, is, tells) = send_step m i.agents xs i.sent.items new c.args.agent p u c.index-post.result.now y c.self.invariant.0 c.self.invariant.1 may c.index-post.ensures
    c.index_mut.ensures.value c.if-post-gt0.false c.if-units-eq0.false c.if-units-post.false c.in-Ok.ensures.items in
    subst (λ (v : WorldFacts). world_facts m i.agents (slice_set xs p (record y { sent = u })) new ≡ world_after v (Send c.args.agent p u)) c.self.view_is
    (stepped w (world_facts m i.agents (slice_set xs p (record y { sent = u })) new) (Send c.args.agent p u) sends is)
