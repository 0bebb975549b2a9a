use Rattle.std.proofs.Common.{rules, ◌≡◌, ◌∙◌, ◌<◌, subst, sym, refl}
use Rattle.std.specs.Prelude.{Some, slice_set}
use Rattle.world_model.specs.World.{WorldFacts, world_facts}
use Rattle.world_model.specs.Steps.{happened, world_after}
use Rattle.world_model.specs.Lawful.{IsWorld}
use Rattle.world_model.specs.declared.event.Event.TheVariants.{Post}
use Rattle.world_model.specs.declared.event.Happened.TheVariants.{Blocked, Posted}
use Rattle.world_model.specs.declared.port.PortState.{PortState}
use Rattle.journal.specs.Fold.{state_of}
use Rattle.journal.specs.Runs.{flow_at, slots_of}
use Rattle.world_model.specs.declared.port.Stage.TheVariants.{Granted}
use Rattle.world_model.proofs.Events.{post_keeps}
use Rattle.world_model.proofs.Fields.{blocked, stays, stepped, told}
use Rattle.world_model.proofs.PostFields.{may_post, posted_before, posted_world, tells_posted}
use Rattle.world_model.proofs.world.World.post.Goals as goal

pub returns-then-last-first-clause-answer : goal.returns-then-last-first-clause-answer
returns-then-last-first-clause-answer c =
    let i = c.self.inside in
    let m = i.master in
    let xs = i.ports.items in
    let w = world_facts m i.agents xs i.sent.items in
    let p = c.args.port in
    let low : p < m.opening.table.ports = search rules in
    let not = posted_before m i.agents xs i.sent.items p c.next_slot-first.result c.index-last.result.now c.self.invariant.0 low c.index-last.ensures c.next_slot-first.ensures
    c.if-last-first.true in
    subst (λ (v : WorldFacts). Blocked ≡ happened v (Post p)) c.self.view_is (blocked w (Post p) not)

pub returns-then-last-first-clause-world : goal.returns-then-last-first-clause-world
returns-then-last-first-clause-world c =
    let i = c.self.inside in
    let m = i.master in
    let xs = i.ports.items in
    let w = world_facts m i.agents xs i.sent.items in
    let p = c.args.port in
    let low : p < m.opening.table.ports = search rules in
    let not = posted_before m i.agents xs i.sent.items p c.next_slot-first.result c.index-last.result.now c.self.invariant.0 low c.index-last.ensures c.next_slot-first.ensures
    c.if-last-first.true in
    subst (λ (v : WorldFacts). v ≡ world_after v (Post p)) c.self.view_is (stays w (Post p) not)

pub invariant_of-self : goal.invariant_of-self
invariant_of-self c =
    let i = c.self.inside in
    let m = i.master in
    let xs = i.ports.items in
    let w = world_facts m i.agents xs i.sent.items in
    let p = c.args.port in
    let low : p < m.opening.table.ports = search rules in
    let opens : Some c.in-Some.slots ≡ slots_of (state_of m.opening m.journal).run = sym c.in-Some.is ∙ c.open_slots.ensures in
    let there : Some c.in-Some-granted.flow ≡ flow_at m.opening.table.flows (state_of m.opening m.journal).run p = sym c.in-Some-granted.is ∙ c.granted.ensures in
    let may = may_post m i.agents xs i.sent.items p c.in-Some.slots c.in-Some-granted.flow c.next_slot-first.result c.index-last.result.now c.self.invariant.0 low
    c.index-last.ensures opens there c.next_slot-first.ensures c.if-last-first.false in
    let is = posted_world m i.agents xs i.sent.items p c.in-Some.slots c.in-Some-granted.flow c.next_slot-first.result c.index-last.result.now c.self.invariant.0 low
    c.index-last.ensures opens there c.next_slot-first.ensures in (
      subst IsWorld (sym is) (post_keeps w p c.self.invariant.0 may),
      tells_posted m i.agents xs i.sent.items p c.in-Some.slots c.in-Some-granted.flow c.next_slot-first.result c.index-last.result.now c.self.invariant.0 c.self.invariant.1 low
          c.index-last.ensures opens c.next_slot-first.ensures c.if-last-first.false,
    )

pub returns-clause-answer : goal.returns-clause-answer
returns-clause-answer c =
    let i = c.self.inside in
    let m = i.master in
    let xs = i.ports.items in
    let w = world_facts m i.agents xs i.sent.items in
    let p = c.args.port in
    let low : p < m.opening.table.ports = search rules in
    let opens : Some c.in-Some.slots ≡ slots_of (state_of m.opening m.journal).run = sym c.in-Some.is ∙ c.open_slots.ensures in
    let there : Some c.in-Some-granted.flow ≡ flow_at m.opening.table.flows (state_of m.opening m.journal).run p = sym c.in-Some-granted.is ∙ c.granted.ensures in
    let may = may_post m i.agents xs i.sent.items p c.in-Some.slots c.in-Some-granted.flow c.next_slot-first.result c.index-last.result.now c.self.invariant.0 low
    c.index-last.ensures opens there c.next_slot-first.ensures c.if-last-first.false in
    subst (λ (v : WorldFacts). Posted ≡ happened v (Post p)) c.self.view_is (told w (Post p) Posted may refl)

pub returns-clause-world : goal.returns-clause-world
returns-clause-world c =
    let i = c.self.inside in
    let m = i.master in
    let xs = i.ports.items in
    let w = world_facts m i.agents xs i.sent.items in
    let p = c.args.port in
    let low : p < m.opening.table.ports = search rules in
    let opens : Some c.in-Some.slots ≡ slots_of (state_of m.opening m.journal).run = sym c.in-Some.is ∙ c.open_slots.ensures in
    let there : Some c.in-Some-granted.flow ≡ flow_at m.opening.table.flows (state_of m.opening m.journal).run p = sym c.in-Some-granted.is ∙ c.granted.ensures in
    let may = may_post m i.agents xs i.sent.items p c.in-Some.slots c.in-Some-granted.flow c.next_slot-first.result c.index-last.result.now c.self.invariant.0 low
    c.index-last.ensures opens there c.next_slot-first.ensures c.if-last-first.false in
    let is = posted_world m i.agents xs i.sent.items p c.in-Some.slots c.in-Some-granted.flow c.next_slot-first.result c.index-last.result.now c.self.invariant.0 low
    c.index-last.ensures opens there c.next_slot-first.ensures in
    let x : PortState = record {
      slot = c.next_slot-first.result;
      flow = c.in-Some-granted.flow;
      stage = Granted;
      count = c.in-Some.slots;
      settled = c.index-last.result.now.settled;
      sent = 0;
    } in
    subst (λ (v : WorldFacts). world_facts m i.agents (slice_set xs p x) i.sent.items ≡ world_after v (Post p)) c.self.view_is
    (stepped w (world_facts m i.agents (slice_set xs p x) i.sent.items) (Post p) may is)
