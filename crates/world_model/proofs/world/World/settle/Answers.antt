use Rattle.std.proofs.Common.{rules, ◌≡◌, ◌∙◌, ◌<◌, arith, ap, subst, sym, false}
use Rattle.std.specs.Prelude.{slice_set, is_none, is_some}
use Rattle.world_model.specs.World.{WorldFacts, world_facts}
use Rattle.world_model.specs.Steps.{happened, world_after}
use Rattle.world_model.specs.Lawful.{IsWorld}
use Rattle.world_model.specs.declared.event.Event.TheVariants.{Settle}
use Rattle.world_model.specs.declared.event.Happened.TheVariants.{Blocked}
use Rattle.world_model.specs.declared.port.PortState.{PortState}
use Rattle.journal.specs.Fold.{state_of}
use Rattle.journal.specs.Runs.{slots_of}
use Rattle.world_model.proofs.Events.{settle_keeps}
use Rattle.world_model.proofs.Fields.{blocked, may_settle, ports_wide, same_read, settle_fits, settle_not_posted, settled_answer, settled_world, stays, stepped, tells_stays, told}
use Rattle.world_model.proofs.world.World.settle.Goals as goal

pub returns-then-post-first-clause-answer : goal.returns-then-post-first-clause-answer
returns-then-post-first-clause-answer c =
    let i = c.self.inside in
    let m = i.master in
    let xs = i.ports.items in
    let w = world_facts m i.agents xs i.sent.items in
    let p = c.args.port in
    let low : p < m.opening.table.ports = search rules in
    let not = settle_not_posted m i.agents xs i.sent.items p c.next_slot-first.result c.index.result.now c.self.invariant.0 low c.index.ensures c.next_slot-first.ensures
    c.if-post-first.true in
    subst (λ (v : WorldFacts). Blocked ≡ happened v (Settle p)) c.self.view_is (blocked w (Settle p) not)

pub returns-then-post-first-clause-world : goal.returns-then-post-first-clause-world
returns-then-post-first-clause-world c =
    let i = c.self.inside in
    let m = i.master in
    let xs = i.ports.items in
    let w = world_facts m i.agents xs i.sent.items in
    let p = c.args.port in
    let low : p < m.opening.table.ports = search rules in
    let not = settle_not_posted m i.agents xs i.sent.items p c.next_slot-first.result c.index.result.now c.self.invariant.0 low c.index.ensures c.next_slot-first.ensures
    c.if-post-first.true in
    subst (λ (v : WorldFacts). v ≡ world_after v (Settle p)) c.self.view_is (stays w (Settle p) not)

pub settle-requires : goal.settle-requires
settle-requires c =
    let i = c.self.inside in
    let m = i.master in
    let xs = i.ports.items in
    let w = world_facts m i.agents xs i.sent.items in
    let p = c.args.port in
    let low : p < m.opening.table.ports = search rules in
    let closed : is_none (slots_of (state_of m.opening m.journal).run) ≡ false = search rules in
    let same : c.index_mut.result.now.slot ≡ c.next_slot-first.result =
    ap (λ (x : PortState). x.slot)
    (same_read xs p c.index_mut.result.now c.index.result.now (omega (arith, ports_wide m i.agents xs i.sent.items c.self.invariant.0, low)) c.index_mut.ensures.value
    c.index.ensures) ∙ c.if-post-first.false in
    settle_fits m i.agents xs i.sent.items p c.next_slot-first.result c.index_mut.result.now c.self.invariant.0 low c.index_mut.ensures.value closed c.next_slot-first.ensures same

pub invariant_of-self : goal.invariant_of-self
invariant_of-self c =
    let i = c.self.inside in
    let m = i.master in
    let xs = i.ports.items in
    let w = world_facts m i.agents xs i.sent.items in
    let p = c.args.port in
    let low : p < m.opening.table.ports = search rules in
    let closed : is_none (slots_of (state_of m.opening m.journal).run) ≡ false = search rules in
    let none : is_some c.index.result.now.settled ≡ false = sym c.is_some.ensures ∙ c.if-is_some.false in
    let may = may_settle m i.agents xs i.sent.items p c.next_slot-first.result c.index.result.now c.self.invariant.0 low c.index.ensures closed c.next_slot-first.ensures
    c.if-post-first.false none in (
      subst IsWorld (sym (settled_world m i.agents xs i.sent.items p c.index_mut.result.now c.settle.new.self c.self.invariant.0 low c.index_mut.ensures.value
          c.settle.ensures.port)) (settle_keeps w p c.self.invariant.0 may),
      tells_stays m i.agents xs i.sent.items p c.index_mut.result.now c.settle.new.self c.self.invariant.0 c.self.invariant.1 low c.index_mut.ensures.value c.settle.ensures.post
          c.settle.ensures.sent,
    )

pub returns-clause-answer : goal.returns-clause-answer
returns-clause-answer c =
    let i = c.self.inside in
    let m = i.master in
    let xs = i.ports.items in
    let w = world_facts m i.agents xs i.sent.items in
    let p = c.args.port in
    let low : p < m.opening.table.ports = search rules in
    let closed : is_none (slots_of (state_of m.opening m.journal).run) ≡ false = search rules in
    let none : is_some c.index.result.now.settled ≡ false = sym c.is_some.ensures ∙ c.if-is_some.false in
    let may = may_settle m i.agents xs i.sent.items p c.next_slot-first.result c.index.result.now c.self.invariant.0 low c.index.ensures closed c.next_slot-first.ensures
    c.if-post-first.false none in
    let is = c.settle.ensures.answer ∙ settled_answer m i.agents xs i.sent.items p c.index_mut.result.now c.self.invariant.0 low c.index_mut.ensures.value in
    subst (λ (v : WorldFacts). c.settle.result ≡ happened v (Settle p)) c.self.view_is (told w (Settle p) c.settle.result may is)

pub returns-clause-world : goal.returns-clause-world
returns-clause-world c =
    let i = c.self.inside in
    let m = i.master in
    let xs = i.ports.items in
    let w = world_facts m i.agents xs i.sent.items in
    let p = c.args.port in
    let low : p < m.opening.table.ports = search rules in
    let closed : is_none (slots_of (state_of m.opening m.journal).run) ≡ false = search rules in
    let none : is_some c.index.result.now.settled ≡ false = sym c.is_some.ensures ∙ c.if-is_some.false in
    let may = may_settle m i.agents xs i.sent.items p c.next_slot-first.result c.index.result.now c.self.invariant.0 low c.index.ensures closed c.next_slot-first.ensures
    c.if-post-first.false none in
    let is = settled_world m i.agents xs i.sent.items p c.index_mut.result.now c.settle.new.self c.self.invariant.0 low c.index_mut.ensures.value c.settle.ensures.port in
    subst (λ (v : WorldFacts). world_facts m i.agents (slice_set xs p c.settle.new.self) i.sent.items ≡ world_after v (Settle p)) c.self.view_is
    (stepped w (world_facts m i.agents (slice_set xs p c.settle.new.self) i.sent.items) (Settle p) may is)
