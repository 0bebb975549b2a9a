use Rattle.std.proofs.Common.{◌∙◌, Bool, List, ap, length, sym, true}
use Rattle.std.specs.Prelude.{if◌then◌else◌}
use Rattle.std.proofs.lemmas.List.{length-set}
use Rattle.journal.specs.declared.command.Command.TheVariants.{Register}
use Rattle.journal.specs.declared.command.Reply.{Reply}
use Rattle.journal.specs.declared.command.Reply.TheVariants.{Already, Joined}
use Rattle.journal.specs.State.{has}
use Rattle.master_core.proofs.TellSteps.{coflow_joins, fits_roster, follows, more_joined, stale_run}
use Rattle.master_core.proofs.standing.Standing.register.Goals as goal

abbrev told : Bool → Reply
told b = if b then Already else Joined

pub returns-then-has_joined : goal.returns-then-has_joined
returns-then-has_joined c =
    follows c.args.opening.now (Register c.args.coflow) c.args.self.now Already c.args.self.now c.requires.fit
    (λ s t. (ap told (ap (λ l. has l c.args.coflow) (sym t.coflows.joined_is) ∙ sym c.has_joined.ensures ∙ c.if-has_joined.true), t))

pub returns : goal.returns
returns c =
    let old = c.args.self.now in
    let new = c.join.new.self in
    let runs = c.set_stale.new.self in
    let away = sym c.has_joined.ensures ∙ c.if-has_joined.false in
    let len = ap (λ (l : List Bool). length l) c.join.ensures.present ∙ length-set old.roster.present c.args.coflow true in
    follows c.args.opening.now (Register c.args.coflow) old Joined (record old { roster = new; runs = runs })
    (fits_roster c.args.opening.now old new runs c.requires.fit len c.set_stale.ensures)
    (λ s t. let away' = ap (λ l. has l c.args.coflow) (sym t.coflows.joined_is) ∙ away in (
      ap told away',
      record {
        coflows = coflow_joins (length c.args.opening.now.table.ids) s.joined s.left old.roster new c.args.coflow t.coflows c.requires.fit.present_len c.requires.coflow_in away'
            c.join.ensures.joined c.join.ensures.present;
        weight = t.weight;
        orders = more_joined s.joined s.published old.orders c.args.coflow t.orders;
        owed = t.owed;
        run = stale_run c.args.opening.now.table.flows c.args.opening.now.table.ports s.run old.runs runs c.set_stale.ensures t.run;
        next = t.next;
      },
    ))
