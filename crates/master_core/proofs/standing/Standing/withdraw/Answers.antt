use Rattle.std.proofs.Common.{◌∙◌, Bool, List, ap, false, length, sym}
use Rattle.std.specs.Prelude.{if◌then◌else◌, not}
use Rattle.std.proofs.lemmas.Bool.{and_parts}
use Rattle.std.proofs.lemmas.List.{length-set}
use Rattle.journal.specs.declared.command.Command.TheVariants.{Withdraw}
use Rattle.journal.specs.declared.command.Reply.{Reply}
use Rattle.journal.specs.declared.command.Reply.TheVariants.{Left, NotHere}
use Rattle.journal.specs.State.{has}
use Rattle.master_core.proofs.TellSteps.{coflow_leaves, fits_roster, follows, stale_run}
use Rattle.master_core.proofs.standing.Standing.withdraw.Goals as goal

abbrev told : Bool → Reply
told b = if b then Left else NotHere

pub returns-then-not-is_present : goal.returns-then-not-is_present
returns-then-not-is_present c =
    follows c.args.opening.now (Withdraw c.args.coflow) c.args.self.now NotHere c.args.self.now c.requires.fit
    (λ s t. (ap told (sym (t.coflows.present_is c.args.coflow) ∙ sym c.is_present.ensures ∙ c.if-not-is_present.true), t))

pub returns : goal.returns
returns c =
    let old = c.args.self.now in
    let new = c.leave.new.self in
    let runs = c.set_stale.new.self in
    let here = sym c.is_present.ensures ∙ c.if-not-is_present.false in
    let len = ap (λ (l : List Bool). length l) c.leave.ensures.present ∙ length-set old.roster.present c.args.coflow false in
    follows c.args.opening.now (Withdraw c.args.coflow) old Left (record old { roster = new; runs = runs })
    (fits_roster c.args.opening.now old new runs c.requires.fit len c.set_stale.ensures)
    (λ s t. let here' = sym (t.coflows.present_is c.args.coflow) ∙ here in (
      ap told here',
      record {
        coflows = coflow_leaves (length c.args.opening.now.table.ids) s.joined s.left old.roster new c.args.coflow t.coflows c.requires.fit.present_len c.requires.coflow_in
            (and_parts (has s.joined c.args.coflow) (not (has s.left c.args.coflow)) here').0 c.leave.ensures.joined c.leave.ensures.present;
        weight = t.weight;
        orders = t.orders;
        owed = t.owed;
        run = stale_run c.args.opening.now.table.flows c.args.opening.now.table.ports s.run old.runs runs c.set_stale.ensures t.run;
        next = t.next;
      },
    ))
