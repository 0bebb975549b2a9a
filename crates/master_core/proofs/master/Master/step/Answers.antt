-- A command is answered, and its entry joins the journal.
use Rattle.std.proofs.Common.{◌≡◌, ◌<◌, arith, length, subst, sym}
use Rattle.journal.specs.Answer.{IsInRange, room}
use Rattle.journal.specs.Fold.{state_of}
use Rattle.journal.specs.Journal.{journal_after}
use Rattle.master_core.specs.Master.{MasterFacts}
use Rattle.journal.proofs.Growth.{version_counted}
use Rattle.journal.proofs.Legal.{legal_fits}
use Rattle.master_core.proofs.StepTells.{journal_is, master_goes_on}
use Rattle.journal.proofs.FurtherRoom.{few_versions as versions_few}
use Rattle.master_core.proofs.master.Master.step.Goals as goal

pub overflow_cast-result : goal.overflow_cast-result
overflow_cast-result c =
    omega (
      arith,
      c.len-entries.ensures,
      legal_fits c.self.inside.opening c.self.inside.journal.items c.self.invariant.legal,
      c.self.invariant.fit.opening.few_entries,
      c.self.invariant.fit.opening.table.few_ports,
    )

pub carry_out-reply-requires-clause-version_fits : goal.carry_out-reply-requires-clause-version_fits
carry_out-reply-requires-clause-version_fits c =
    let o = c.self.inside.opening in
    let journal = c.self.inside.journal.items in
    omega (
      arith,
      legal_fits o journal c.self.invariant.legal,
      c.self.invariant.fit.opening.few_entries,
      c.self.invariant.fit.opening.table.few_ports,
      c.self.invariant.tells.orders.version_is,
      version_counted o journal,
      versions_few journal,
    )

pub invariant_of-self : goal.invariant_of-self
invariant_of-self c =
    let o = c.self.inside.opening in
    let journal = c.self.inside.journal.items in
    let lt : length journal < room o c.args.command = omega (arith, c.len-entries.ensures, c.room_for.ensures, c.if-entries-room_for.false) in
    master_goes_on o journal c.push_reserved.new.self.items _ _ c.self.inside.standing c.carry_out-reply.new.self c.args.who c.args.command c.carry_out-reply.result
    c.self.invariant
    (subst (λ (v : MasterFacts). IsInRange v.opening c.args.command) (sym c.self.view_is) c.requires) lt c.carry_out-reply.ensures c.push_reserved.ensures.items
    c.push_reserved.ensures.capacity

pub returns-clause-journal : goal.returns-clause-journal
returns-clause-journal c =
    let o = c.self.inside.opening in
    let journal = c.self.inside.journal.items in
    let lt : length journal < room o c.args.command = omega (arith, c.len-entries.ensures, c.room_for.ensures, c.if-entries-room_for.false) in
    let is = c.carry_out-reply.ensures.reply_is (state_of o journal) c.self.invariant.tells in
    subst (λ (v : MasterFacts). c.push_reserved.new.self.items ≡ journal_after v.opening v.journal c.args.who c.args.command) c.self.view_is
    (journal_is o journal c.push_reserved.new.self.items c.args.who c.args.command c.carry_out-reply.result lt is c.push_reserved.ensures.items)
