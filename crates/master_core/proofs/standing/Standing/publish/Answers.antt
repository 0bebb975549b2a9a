-- A publishing is refused while a run is open.
use Rattle.std.proofs.Common.{◌∙◌, ◌≤◌, ◌+◌, ℕ, Bool, List, Option, ap, subst, sym}
use Rattle.std.specs.Prelude.{◌^◌, sum}
use Rattle.coflow_units.specs.declared.fabric.Flow.{Flow}
use Rattle.journal.specs.declared.command.Command.TheVariants.{Publish}
use Rattle.journal.specs.declared.command.Reply.{Reply}
use Rattle.journal.specs.declared.command.Reply.TheVariants.{StillOpen, Version}
use Rattle.journal.specs.State.{Run, what_is_left}
use Rattle.journal.specs.Line.{version}
use Rattle.journal.specs.Answer.{on_run}
use Rattle.master_core.specs.Published.{IsLeft}
use Rattle.master_core.proofs.OwingTells.{none_told, run_told}
use Rattle.master_core.proofs.PublishTells.{left_told, owed_within, published_told}
use Rattle.master_core.proofs.TellSteps.{fits_orders, follows, stale_run}
use Rattle.master_core.proofs.standing.Standing.publish.Goals as goal

abbrev still : Reply → Option Run → Reply
still other r = on_run r (λ r. StillOpen r.first) other

pub returns-in-Some : goal.returns-in-Some
returns-in-Some c =
    let o = c.args.opening.now in
    let old = c.args.self.now in
    let (k, is, first, slots, count) = c.in-Some.ensures in
    follows o Publish old (StillOpen c.in-Some.run'.first) old c.requires.fit
    (λ s t. (run_told o.table.flows o.table.ports s.run old.runs.run k (Version (version s + 1)) t.run is ∙ ap StillOpen (sym first), t))

pub publish-requires-clause-units : goal.publish-requires-clause-units
publish-requires-clause-units c =
    subst (λ (l : List ℕ). sum l ≤ 2 ^ 40) (sym c.owed_all.ensures.owed)
    (owed_within c.args.opening.now.table c.args.self.now.ledger.units c.args.self.now.ledger.owed c.requires.fit.opening.table c.requires.fit.units
    c.owed_all.ensures.balanced)

pub returns : goal.returns
returns c =
    let o = c.args.opening.now in
    let old = c.args.self.now in
    let new = c.publish.new.self in
    let runs = c.set_stale.new.self in
    follows o Publish old (Version c.version.result) (record old { orders = new; runs = runs })
    (fits_orders o old new runs c.requires.fit c.publish.ensures.coflows_are c.publish.ensures.ports_are c.set_stale.ensures)
    (λ s t.
    let i = what_is_left o s in
    let a = left_told o s old c.requires.fit t in
    let a1 = subst (λ (l : List Flow). IsLeft i l old.ledger.owed old.weights.items old.roster.present o.table.ports) (sym c.flows.ensures.flows) a in
    let a2 = subst (λ (l : List ℕ). IsLeft i c.flows.result.now l old.weights.items old.roster.present o.table.ports) (sym c.owed_all.ensures.owed) a1 in
    let a3 = subst (λ (l : List ℕ). IsLeft i c.flows.result.now c.owed_all.result.now l old.roster.present o.table.ports) (sym c.deref.ensures.value) a2 in
    let a4 = subst (λ (l : List Bool). IsLeft i c.flows.result.now c.owed_all.result.now c.deref.result.now l o.table.ports) (sym c.present.ensures) a3 in
    let a5 = subst (λ (n : ℕ). IsLeft i c.flows.result.now c.owed_all.result.now c.deref.result.now c.present.result.now n) (sym c.requires.fit.orders_ports) a4 in (
      ap (still (Version (version s + 1))) (none_told o.table.flows o.table.ports s.run old.runs.run t.run c.in_default.ensures)
          ∙ ap Version (ap (λ n. n + 1) (sym t.orders.version_is) ∙ sym (c.version.ensures ∙ c.publish.ensures.version)),
      record {
        coflows = t.coflows;
        weight = t.weight;
        orders = published_told o s old new c.requires.fit t c.publish.ensures.version (c.publish.ensures.order i a5);
        owed = t.owed;
        run = stale_run o.table.flows o.table.ports s.run old.runs runs c.set_stale.ensures t.run;
        next = t.next;
      },
    ))
