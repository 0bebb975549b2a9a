use Rattle.std.proofs.Common.{◌∙◌, ℕ, Option, ap, subst, sym}
use Rattle.journal.specs.declared.command.Command.TheVariants.{Short}
use Rattle.journal.specs.declared.command.Reply.TheVariants.{NotGranted, Noted}
use Rattle.master_core.specs.OpenRun.{FitsOpen, KeptRun, with_note}
use Rattle.master_core.specs.Standing.{TellsRun}
use Rattle.journal.specs.Fold.{noted_in}
use Rattle.master_core.proofs.NoteSteps.{fits_noted, with_none}
use Rattle.master_core.proofs.RunTells.{answer_noted, answer_not_granted, run_noted}
use Rattle.master_core.proofs.TellSteps.{fits_runs, follows}
use Rattle.master_core.proofs.standing.Standing.short.Goals as goal

pub returns-in-Some : goal.returns-in-Some
returns-in-Some c =
    let old = c.args.self.now in
    let o = c.args.opening.now in
    let p = c.args.ingress in
    let n = c.in-Some.noted in
    let new = c.note.new.self in
    let is = sym c.note.ensures.noted ∙ c.in-Some.is in
    let run = c.note.ensures.run ∙ ap (λ (x : Option ℕ). with_note old.runs.run p x) c.in-Some.is in
    follows o (Short p c.args.units) old (Noted n) (record old { runs = new })
    (fits_runs o old new c.requires.fit c.note.ensures.ports c.note.ensures.tables c.note.ensures.fresh
    (subst (FitsOpen o.table.flows old.ledger.owed) (sym run) (fits_noted o.table.flows old.ledger.owed old.runs.run p c.args.units n c.requires.fit.run is)))
    (λ s t. (
      answer_noted o.table.flows o.table.ports s.run old.runs.run p c.args.units n t.run is,
      record {
        coflows = t.coflows;
        weight = t.weight;
        orders = t.orders;
        owed = t.owed;
        run = subst (λ (x : Option KeptRun). TellsRun o.table.flows o.table.ports (noted_in s.run p n) x) (sym run)
            (run_noted o.table.flows o.table.ports s.run old.runs.run p n c.requires.ingress_in t.run);
        next = t.next;
      },
    ))

pub returns-in-None : goal.returns-in-None
returns-in-None c =
    let old = c.args.self.now in
    let o = c.args.opening.now in
    let p = c.args.ingress in
    let new = c.note.new.self in
    let is = sym c.note.ensures.noted ∙ c.in-None.is in
    let run = c.note.ensures.run ∙ ap (λ (x : Option ℕ). with_note old.runs.run p x) c.in-None.is ∙ with_none old.runs.run p in
    follows o (Short p c.args.units) old (NotGranted p) (record old { runs = new })
    (fits_runs o old new c.requires.fit c.note.ensures.ports c.note.ensures.tables c.note.ensures.fresh
    (subst (FitsOpen o.table.flows old.ledger.owed) (sym run) c.requires.fit.run))
    (λ s t. (
      answer_not_granted o.table.flows o.table.ports s.run old.runs.run p c.args.units t.run is,
      record {
        coflows = t.coflows;
        weight = t.weight;
        orders = t.orders;
        owed = t.owed;
        run = subst (λ (x : Option KeptRun). TellsRun o.table.flows o.table.ports s.run x) (sym run) t.run;
        next = t.next;
      },
    ))
