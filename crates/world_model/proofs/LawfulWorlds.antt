-- What holds of a world that has what every step keeps.
use Rattle.std.proofs.Common.{◌≡◌, ℕ, ◌+◌, ◌-◌, ◌≤◌, ◌<◌, ◌⊎◌, min, inl, inr, List, [], ◌∷◌, ◌++◌, Contains, length, get_or, take, refl, sym, ap, subst, ◌∙◌, arith, Option, Some}
use Rattle.std.proofs.Common.{None}
use Rattle.std.proofs.lemmas.List.{take_more}
use Rattle.coflow_units.specs.declared.fabric.Flow.{Flow}
use Rattle.coflow_units.specs.Grants.{IsGrants, IsRunLength}
use Rattle.coflow_units.proofs.ServedLaws.{grants_patient}
use Rattle.journal.specs.declared.command.Entry.{Entry}
use Rattle.journal.specs.declared.command.Reply.{Reply}
use Rattle.journal.specs.declared.command.Reply.TheVariants.{Closed}
use Rattle.journal.specs.declared.opening.Opening.{Opening}
use Rattle.journal.specs.State.{IsOpening, Run, State, owed, slot_end}
use Rattle.journal.specs.Runs.{granted}
use Rattle.journal.specs.Fold.{after, start, state_of}
use Rattle.journal.specs.Entries.{TellsEntry}
use Rattle.journal.specs.Journal.{IsLegal, line_of}
use Rattle.journal.proofs.Growth.{state_snoc}
use Rattle.journal.proofs.Opened.{opened_grants, run_length_is}
use Rattle.world_model.specs.declared.event.Event.{Event}
use Rattle.world_model.specs.declared.event.SentRun.{SentRun}
use Rattle.world_model.specs.Sent.{sent_in}
use Rattle.world_model.specs.World.{WorldFacts, new_world}
use Rattle.world_model.specs.Steps.{world_after, world_of}
use Rattle.world_model.specs.Kept.{InTime}
use Rattle.world_model.specs.Credited.{CreditsSent, IsCredited}
use Rattle.world_model.specs.Lawful.{ClosesAsSent, IsWorld, OpensGrants, OpensPatiently, SendsInTime, SendsOnce, SendsWithin, end_of}
use Rattle.world_model.proofs.Within.{kept_within}
use Rattle.world_model.proofs.Credits.{credited_at, pair_once}
use Rattle.journal.proofs.EntryTells.{entry_tells}
use Rattle.world_model.proofs.Events.{low_of, new_is_world, sound_of, steps_keep}

pub sends_once : (w : WorldFacts) → IsWorld w → SendsOnce w
sends_once w h = λ slot f. pair_once w.sent slot f h.kept.apart

pub sends_within : (w : WorldFacts) → IsWorld w → SendsWithin w
sends_within w h = λ f.
    let s = state_of w.opening w.journal in
    kept_within w.opening.table.flows w.opening.table.ports s.sent s.next s.run w.ports w.sent (low_of w.opening h.opening) (sound_of w h) h.kept f

ended : (flows : List Flow) (next : ℕ) (run : Option Run) (x : SentRun) → InTime flows next run x → x.slot + x.units ≤ end_of next run
ended flows next None x h = h
ended flows next (Some r) x (inl h) = omega (arith, h)
ended flows next (Some r) x (inr h) = omega (arith, h.0, h.1)

pub sends_in_time : (w : WorldFacts) → IsWorld w → SendsInTime w
sends_in_time w h = λ k d lt.
    let s = state_of w.opening w.journal in
    ended w.opening.table.flows s.next s.run (get_or w.sent k d) ((h.kept.each_sent k d lt).in_time)

closing_credits : (o : Opening) (sent : List SentRun) (next slot : ℕ) (s : State) (e : Entry) (r : Run) → e.reply ≡ Closed slot → s.run ≡ Some r →
    CreditsSent o sent next e.reply s.run → (f : ℕ) →
    (after o s e.command e.reply).sent f ≡ s.sent f + sent_in sent r f
closing_credits o sent next slot s e r reply run h f =
    let closes = subst (CreditsSent o sent next (Closed slot)) run (subst (λ (x : Reply). CreditsSent o sent next x s.run) reply h) in
    ap (λ (x : Reply). (after o s e.command x).sent f) reply ∙ ap (λ (x : Option Run). (Rattle.journal.specs.Fold.closed o s x).sent f) run ∙ ap (λ n. s.sent f + n) (closes.1 f)

pub closes_as_sent : (w : WorldFacts) → IsWorld w → ClosesAsSent w
closes_as_sent w h = λ before more e slot is reply.
    let o = w.opening in
    let next = (state_of o w.journal).next in
    let there = credited_at o w.sent next (start o) before more e (subst (IsCredited o w.sent next) is h.credited) in
    let (r, command, run, first) = subst (TellsEntry o (state_of o before) e.command) reply (entry_tells o before more e (subst (IsLegal o) is h.legal.0)) in
    (r, run, sym first, λ f. ap (λ (s : State). s.sent f) (state_snoc o before e) ∙ closing_credits o w.sent next slot (state_of o before) e r reply run there f)

pub opens_grants : (w : WorldFacts) → IsWorld w → OpensGrants w
opens_grants w h = λ before more e slot slots count is reply.
    let o = w.opening in
    let s = state_of o before in
    let (run, grants) = opened_grants o before e slot slots count reply in
    let (most, command, none, owes, next, len, counted, left) = subst (TellsEntry o s e.command) reply (entry_tells o before more e (subst (IsLegal o) is h.legal.0)) in
    let long = subst (IsRunLength (owed o s) (granted o s) (min most (slot_end - s.next))) (sym len) (run_length_is o s most) in (
      most,
      record { first = slot; slots = slots; granted = granted o s; notes = [] },
      command,
      run,
      record {
        begins = refl;
        at_next = next;
        lasts = refl;
        counted = sym counted;
        grants = grants;
        longest = subst (λ n. IsRunLength (owed o s) (granted o s) (min most (slot_end - n)) slots) (sym next) long;
      },
    )

pub opens_patiently : (w : WorldFacts) → OpensPatiently w
opens_patiently w = λ before more e slot slots count r is reply run f lt in' owes.
    let o = w.opening in
    let r' : Run = record { first = slot; slots = slots; granted = granted o (state_of o before); notes = [] } in
    let (made, grants) = opened_grants o before e slot slots count reply in
    let same : Some r' ≡ Some r = sym made ∙ run in
    let same' : r' ≡ r = cc in
    let grants' = subst (λ (x : Run). IsGrants o.table.flows (line_of o before) (owed o (state_of o before)) x.granted) same' grants in
    grants_patient o.table.flows (line_of o before) (owed o (state_of o before)) r.granted f grants' lt in' owes

-- a list of steps from a new world
pub played : (o : Opening) (agents : ℕ) (events : List Event) → IsOpening o → IsWorld (world_of (new_world o agents) events)
played o agents events ok = steps_keep (new_world o agents) events (new_is_world o agents ok)

-- one step more
one_more : (w : WorldFacts) (es : List Event) (e : Event) → world_of w (es ++ e ∷ []) ≡ world_after (world_of w es) e
one_more w [] e = refl
one_more w (x ∷ xs) e = one_more (world_after w x) xs e

-- one step more of a list
pub goes_on : (v w w' : WorldFacts) (es : List Event) (k : ℕ) (d : Event) → k < length es → w ≡ world_of v (take k es) → w' ≡ world_after w (get_or es k d) →
    w' ≡ world_of v (take (k + 1) es)
goes_on v w w' es k d lt is went =
    went ∙ ap (λ (u : WorldFacts). world_after u (get_or es k d)) is ∙ sym (one_more v (take k es) (get_or es k d)) ∙ ap (world_of v) (sym (take_more es k d lt))

pub was_played : (w v : WorldFacts) (es : List Event) → IsWorld v → w ≡ world_of v es → IsWorld w
was_played w v es h is = subst IsWorld (sym is) (steps_keep v es h)
