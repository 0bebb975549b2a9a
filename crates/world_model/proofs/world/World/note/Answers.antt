use Rattle.std.proofs.Common.{rules, ◌≡◌, ◌∙◌, ◌<◌, ap, subst, sym}
use Rattle.std.specs.Prelude.{Some}
use Rattle.world_model.specs.World.{WorldFacts, world_facts}
use Rattle.world_model.specs.Steps.{asks, world_after}
use Rattle.world_model.specs.Lawful.{IsWorld}
use Rattle.world_model.specs.declared.event.Event.TheVariants.{Note}
use Rattle.journal.specs.Fold.{state_of}
use Rattle.journal.specs.Runs.{slots_of}
use Rattle.journal.specs.declared.command.Command.{Command}
use Rattle.journal.specs.declared.command.Command.TheVariants.{Short}
use Rattle.world_model.proofs.Events.{note_keeps}
use Rattle.world_model.proofs.Fields.{may_note, noted_units, stepped}
use Rattle.world_model.proofs.world.World.note.Goals as goal

pub carry_out-requires-clause-keeps : goal.carry_out-requires-clause-keeps
carry_out-requires-clause-keeps c =
    let i = c.self.inside in
    let m = i.master in
    let xs = i.ports.items in
    let w = world_facts m i.agents xs i.sent.items in
    let p = c.args.port in
    let low : p < m.opening.table.ports = search rules in
    let opens : Some c.in-Some.slots ≡ slots_of (state_of m.opening m.journal).run = sym c.in-Some.is ∙ c.open_slots.ensures in
    let may = may_note m i.agents xs i.sent.items p c.in-Some.slots c.in-Some-settled.units c.index.result.now c.self.invariant.0 low c.index.ensures opens c.in-Some-settled.is
    c.if-units-slots.false in
    let noted = noted_units m i.agents xs i.sent.items p c.in-Some-settled.units c.index.result.now c.self.invariant.0 low c.index.ensures c.in-Some-settled.is in
    subst (λ (v : WorldFacts). IsWorld (asks v 0 (Short p c.in-Some-settled.units))) c.self.view_is
    (subst (λ (k : Command). IsWorld (asks w 0 k)) (sym noted) (note_keeps w p c.self.invariant.0 may))

pub returns-clause-world : goal.returns-clause-world
returns-clause-world c =
    let i = c.self.inside in
    let m = i.master in
    let xs = i.ports.items in
    let w = world_facts m i.agents xs i.sent.items in
    let p = c.args.port in
    let low : p < m.opening.table.ports = search rules in
    let opens : Some c.in-Some.slots ≡ slots_of (state_of m.opening m.journal).run = sym c.in-Some.is ∙ c.open_slots.ensures in
    let may = may_note m i.agents xs i.sent.items p c.in-Some.slots c.in-Some-settled.units c.index.result.now c.self.invariant.0 low c.index.ensures opens c.in-Some-settled.is
    c.if-units-slots.false in
    let noted = noted_units m i.agents xs i.sent.items p c.in-Some-settled.units c.index.result.now c.self.invariant.0 low c.index.ensures c.in-Some-settled.is in
    let is = ap (λ (k : Command). asks w 0 k) noted in
    c.carry_out.ensures.world ∙ subst (λ (v : WorldFacts). asks v 0 (Short p c.in-Some-settled.units) ≡ world_after v (Note p)) c.self.view_is
    (stepped w (asks w 0 (Short p c.in-Some-settled.units)) (Note p) may is)
