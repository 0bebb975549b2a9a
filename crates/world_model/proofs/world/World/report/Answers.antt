use Rattle.std.proofs.Common.{◌≡◌, ◌∙◌, subst, sym, refl, true}
use Rattle.std.specs.Prelude.{slice_set}
use Rattle.world_model.specs.World.{WorldFacts, world_facts}
use Rattle.world_model.specs.Guards.{can}
use Rattle.world_model.specs.Steps.{world_after}
use Rattle.world_model.specs.Lawful.{IsWorld}
use Rattle.world_model.specs.declared.event.Event.TheVariants.{Report}
use Rattle.world_model.specs.declared.port.PortState.{PortState}
use Rattle.world_model.specs.declared.port.Stage.TheVariants.{Reported}
use Rattle.world_model.proofs.Events.{report_keeps}
use Rattle.world_model.proofs.Fields.{low_report, reported_world, stepped, tells_at, tells_stays}
use Rattle.world_model.proofs.world.World.report.Goals as goal

pub invariant_of-self : goal.invariant_of-self
invariant_of-self c =
    let i = c.self.inside in
    let m = i.master in
    let xs = i.ports.items in
    let w = world_facts m i.agents xs i.sent.items in
    let p = c.args.port in
    let may : can w (Report c.args.agent p) ≡ true =
    subst (λ (v : WorldFacts). can v (Report c.args.agent p) ≡ true) (sym c.self.view_is) (sym c.is_drawn.ensures ∙ c.if-not-is_drawn.false) in
    let (low, drew) = low_report w c.args.agent p may in
    let x = c.index-post.result.now in
    let count = tells_at m i.agents xs i.sent.items p x c.self.invariant.0 c.self.invariant.1 low c.index-post.ensures in (
      subst IsWorld (sym (reported_world m i.agents xs i.sent.items c.args.agent p x.sent x c.self.invariant.0 low c.index-post.ensures count))
          (report_keeps w c.args.agent p c.self.invariant.0 may),
      tells_stays m i.agents xs i.sent.items p x (record x { stage = Reported c.args.agent x.sent; count = x.sent; sent = x.sent }) c.self.invariant.0 c.self.invariant.1 low
          c.index-post.ensures refl refl,
    )

pub returns-clause-world : goal.returns-clause-world
returns-clause-world c =
    let i = c.self.inside in
    let m = i.master in
    let xs = i.ports.items in
    let w = world_facts m i.agents xs i.sent.items in
    let p = c.args.port in
    let may : can w (Report c.args.agent p) ≡ true =
    subst (λ (v : WorldFacts). can v (Report c.args.agent p) ≡ true) (sym c.self.view_is) (sym c.is_drawn.ensures ∙ c.if-not-is_drawn.false) in
    let (low, drew) = low_report w c.args.agent p may in
    let x = c.index-post.result.now in
    let n = x.sent in
    let count = tells_at m i.agents xs i.sent.items p x c.self.invariant.0 c.self.invariant.1 low c.index-post.ensures in
    let is = reported_world m i.agents xs i.sent.items c.args.agent p n x c.self.invariant.0 low c.index-post.ensures count in
    let y : PortState = record x { stage = Reported c.args.agent n; count = n; sent = n } in
    subst (λ (v : WorldFacts). world_facts m i.agents (slice_set xs p y) i.sent.items ≡ world_after v (Report c.args.agent p)) c.self.view_is
    (stepped w (world_facts m i.agents (slice_set xs p y) i.sent.items) (Report c.args.agent p) may is)
