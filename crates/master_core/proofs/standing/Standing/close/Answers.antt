-- A closing credits the open run, and the next slot is the one after it.
use Rattle.std.proofs.Common.{◌∙◌, ◌+◌, List, Option, None, ap, arith, subst, sym}
use Rattle.std.specs.Prelude.{slice_index}
use Rattle.coflow_units.specs.declared.fabric.Flow.{Flow}
use Rattle.coflow_units.specs.Flows.{units_of}
use Rattle.master_core.specs.Accounts.{Accounts}
use Rattle.journal.specs.declared.command.Command.TheVariants.{Close}
use Rattle.journal.specs.declared.command.Reply.TheVariants.{Closed, NoneOpen}
use Rattle.journal.specs.State.{Run}
use Rattle.journal.specs.Fold.{closed}
use Rattle.master_core.specs.OpenRun.{KeptRun, kept_credit}
use Rattle.master_core.specs.Waiting.{line_of}
use Rattle.master_core.specs.Standing.{Tells, TellsRun}
use Rattle.master_core.proofs.CloseTells.{close_none, close_some, credit_told, fits_kept, grants_kept, ingress_low, open_of, still_owed}
use Rattle.master_core.proofs.OwingTells.{none_told}
use Rattle.master_core.proofs.TellSteps.{fits_closed, follows}
use Rattle.master_core.proofs.standing.Standing.close.Goals as goal

pub returns-in_default : goal.returns-in_default
returns-in_default c =
    let o = c.args.opening.now in
    let old = c.args.self.now in
    let ends = c.in_default.ensures in
    let kept = grants_kept c.flows-flows.result.now o.table.flows (line_of old.roster old.orders) old.ledger.owed c.end.new.ledger.owed old.runs c.end.new.self
    c.flows-flows.ensures.flows c.requires.fit.grants ends.grants in
    let (none, same) = ends.run in
    follows o Close old NoneOpen (record old { ledger = c.end.new.ledger; runs = c.end.new.self })
    (fits_closed o old c.end.new.ledger c.end.new.self old.next c.requires.fit ends.units
    ends.owed_len ends.ports ends.room kept ends.closed c.requires.fit.next_ends)
    (λ s t.
    let none' = none_told o.table.flows o.table.ports s.run old.runs.run t.run none in (
      close_none s.run none',
      record {
        coflows = t.coflows;
        weight = t.weight;
        orders = t.orders;
        owed = λ f. ap (λ (a : Accounts). slice_index a.owed f) same ∙ t.owed f;
        run = subst (λ (x : Option KeptRun). TellsRun o.table.flows o.table.ports s.run x) (none ∙ sym ends.closed) t.run;
        next = t.next;
      },
    ))

pub returns : goal.returns
returns c =
    let o = c.args.opening.now in
    let old = c.args.self.now in
    let ends = c.in-Some.ensures in
    let kept = grants_kept c.flows-flows.result.now o.table.flows (line_of old.roster old.orders) old.ledger.owed c.end.new.ledger.owed old.runs c.end.new.self
    c.flows-flows.ensures.flows c.requires.fit.grants ends.grants in
    let x = c.in-Some.run' in
    let (k, is, first, slots, paid) = ends.run in
    let fits = fits_kept o.table.flows old.ledger.owed old.runs.run k c.requires.fit.run is in
    let new = record old { ledger = c.end.new.ledger; runs = c.end.new.self; next = x.first + x.slots } in
    follows o Close old (Closed x.first) new
    (fits_closed o old c.end.new.ledger c.end.new.self (x.first + x.slots) c.requires.fit ends.units
    ends.owed_len ends.ports ends.room kept ends.closed
    (omega (arith, fits.ends, first, slots)))
    (λ s t.
    let (r, run, told) = open_of o.table.flows o.table.ports s.run old.runs.run k t.run is in (
      close_some s.run r x.first run (sym told.first ∙ sym first),
      subst (λ (z : Option Run). Tells o (closed o s z) new) (sym run) (record {
        coflows = t.coflows;
        weight = t.weight;
        orders = t.orders;
        owed = λ f.
            still_owed (units_of o.table.flows f) (s.sent f) _ (slice_index c.end.new.ledger.owed f) (slice_index old.ledger.owed f) (t.owed f)
            (ap (λ n. slice_index c.end.new.ledger.owed f + n) (sym (credit_told o.table.flows o.table.ports r k f told (ingress_low o.table f c.requires.fit.opening.table)))
            ∙ ap (λ (l : List Flow). slice_index c.end.new.ledger.owed f + kept_credit l k f) (sym c.flows-flows.ensures.flows) ∙ paid f);
        run = subst (TellsRun o.table.flows o.table.ports None) (sym ends.closed) tt;
        next = omega (arith, first, slots, told.first, told.slots);
      }),
    ))
