-- A run that fell short, behind runs that were sent whole.
use Rattle.std.proofs.Common.{◌≡◌, ℕ, false, List, refl, sym, ap, subst, ◌∙◌, arith, cond, Option}
use Rattle.std.specs.Prelude.{All, Contains, unwrap_or}
use Rattle.std.proofs.lemmas.List.Elements.{All-weaker}
use Rattle.coflow_units.specs.declared.fabric.Flow.{Flow}
use Rattle.coflow_units.specs.Flows.{ingress_of}
use Rattle.coflow_units.specs.Schedule.{IsClear}
use Rattle.coflow_units.proofs.ServedLaws.{grants_clear}
use Rattle.coflow_units.proofs.Sums.{any_in}
use Rattle.journal.specs.declared.command.Entry.{Entry}
use Rattle.journal.specs.declared.opening.Opening.{Opening}
use Rattle.journal.specs.Closed.{closed_runs}
use Rattle.journal.specs.Counts.{IsWhole, is_noting}
use Rattle.journal.specs.Driven.{driven, opened_in}
use Rattle.journal.specs.Fold.{state_of}
use Rattle.journal.specs.Journal.{IsLegal, line_of}
use Rattle.journal.specs.Runs.{grant_in, note_in}
use Rattle.journal.specs.State.{owed, Run}
use Rattle.journal.proofs.Counting.{unnoted}
use Rattle.journal.proofs.Ingresses.{grant_at, grant_is}
use Rattle.slot_runner.specs.Models.{RunnerModel}
use Rattle.slot_runner.specs.Slots.{IsFaulted}
use Rattle.slot_runner.specs.Cuts.{AllSentWhole, IsCutAt, WasSentWhole}

-- a run of which nothing was noted was sent whole
sent_whole : (flows : List Flow) (r : Run) → IsWhole r → WasSentWhole flows r
sent_whole flows r h f in' =
    ap {B = ℕ} (λ b. cond b (unwrap_or (note_in r.notes (ingress_of flows f)) r.slots) 0) (any_in r.granted f in') ∙
    ap (λ notes. unwrap_or (note_in notes (ingress_of flows f)) r.slots) h.1

-- so it is with all runs of a journal without notes
pub whole_unnoted : (o : Opening) (journal : List Entry) → IsLegal o journal → All (λ (e : Entry). is_noting e.command ≡ false) journal → AllSentWhole o journal
whole_unnoted o journal legal none =
    All-weaker IsWhole (WasSentWhole o.table.flows) (λ r whole. sent_whole o.table.flows r whole) (closed_runs o journal) (unnoted o journal legal none).closed

module _ {W : Type 0} (faults : W → ℕ) (wruns : W → Option (List (ℕ × ℕ × ℕ))) where
  -- a run that fell short at a port, after such a journal
  pub cut_at : (o : Opening) (most : ℕ) (old new : RunnerModel) (before after : List W) (port units : ℕ) → IsFaulted faults wruns o most old new before after port units →
      AllSentWhole o old.driver.journal → IsCutAt o new.driver.journal port
  cut_at o most old new before after port units x whole =
      let flows = o.table.flows in
      let d = x.drive in
      let run = x.run in
      let gs = driven o old.driver.journal d in
      let opened = opened_in old.driver.journal d in
      let (r, open', closed, first, slots, grants, credits) = run.goes_on.closed in
      let clear : IsClear flows gs = grants_clear flows (line_of o opened) (owed o (state_of o opened)) gs run.goes_on.grants in
      let mine = grant_is flows gs port x.flow (ap (λ l. grant_in flows l port) (sym run.granted) ∙ x.granted) in
      record {
        earlier = closed_runs o old.driver.journal;
        run = r;
        last = closed;
        flow = x.flow;
        granted = subst (λ l. Contains l x.flow) (sym grants) mine.0;
        port_is = mine.1;
        missing = omega (arith, credits x.flow (subst (λ l. Contains l x.flow) (sym grants) mine.0), ap d.sent mine.1, x.units_is, x.short, slots);
        lesser = λ f in' lt.
            let there = subst (λ l. Contains l f) grants in' in
            credits f in' ∙
            x.least (ingress_of flows f) f lt
            (ap (λ l. grant_in flows l (ingress_of flows f)) run.granted ∙ (grant_at flows gs (ingress_of flows f) f clear).1 (there, refl)) ∙
            sym slots;
        whole = whole;
      }
