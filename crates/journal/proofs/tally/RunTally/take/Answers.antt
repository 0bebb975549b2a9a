use Rattle.std.proofs.Common.{refl, ap, ◌∙◌}
use Rattle.journal.specs.declared.command.Reply.TheVariants.{Opened, Noted, Closed}
use Rattle.journal.proofs.TallySteps.{noted_as, opened_as, other_reply, takes_as}
use Rattle.journal.proofs.tally.RunTally.take.Goals as goal

pub returns-in_ok-credits-in-Opened-clause-tally : goal.returns-in_ok-credits-in-Opened-clause-tally
returns-in_ok-credits-in-Opened-clause-tally c = λ o journal same are h.
    takes_as o journal c.args.entry c.args.flows.now c.args.granted.now c.args.self.now c.begin.new.self
    (Opened c.in-Opened.first c.in-Opened.slots c.in-Opened.field-2) c.in-Opened.is
    (c.begin.ensures ∙ ap (opened_as c.args.self.now c.in-Opened.first c.in-Opened.slots) c.in_ok-credits-in-Opened.ensures) same are h

pub returns-in-Noted-clause-tally : goal.returns-in-Noted-clause-tally
returns-in-Noted-clause-tally c = λ o journal same are h.
    takes_as o journal c.args.entry c.args.flows.now c.args.granted.now c.args.self.now c.note.new.self (Noted c.in-Noted.units) c.in-Noted.is
    (c.note.ensures ∙ ap (λ p. noted_as c.args.self.now p c.in-Noted.units) c.port_named.ensures) same are h

pub returns-in_ok-close-in-Closed-clause-tally : goal.returns-in_ok-close-in-Closed-clause-tally
returns-in_ok-close-in-Closed-clause-tally c = λ o journal same are h.
    takes_as o journal c.args.entry c.args.flows.now c.args.granted.now c.args.self.now c.close.new.self (Closed c.in-Closed.field-0)
    c.in-Closed.is c.in_ok-close-in-Closed.ensures.ok same are h

pub returns-in_default : goal.returns-in_default
returns-in_default c = record {
  tally = λ o journal same are h.
      takes_as o journal c.args.entry c.args.flows.now c.args.granted.now c.args.self.now c.args.self.now c.args.entry.reply refl
      (other_reply c.args.flows.now c.args.granted.now c.args.entry.command c.args.entry.reply c.args.self.now
      c.in_default.not-Opened c.in_default.not-Noted c.in_default.not-Closed) same are h;
  unchanged = tt;
}
