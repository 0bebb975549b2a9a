-- The closed runs of a legal journal are in order, and account for what was sent.
use Rattle.std.proofs.Common.{ℕ, ◌+◌, ◌≤◌, Bool, true, false, List, [], ◌∷◌, ◌++◌, get_or, refl, sym, subst, arith, append-nil, Option, Some, None, unwrap_or}
use Rattle.std.specs.Prelude.{if◌then◌else◌, option_to_list}
use Rattle.std.proofs.lemmas.List.Elements.{All-push}
use Rattle.std.proofs.lemmas.List.Quantifiers.{all_pairs_push}
use Rattle.std.proofs.lemmas.List.Sums.{sum_by_push}
use Rattle.coflow_units.specs.declared.fabric.Flow.{Flow}
use Rattle.coflow_units.specs.Flows.{ingress_of}
use Rattle.journal.specs.declared.command.Command.{Command}
use Rattle.journal.specs.declared.command.Entry.{Entry}
use Rattle.journal.specs.declared.command.Reply.{Reply}
use Rattle.journal.specs.declared.command.Reply.TheVariants.{Closed, Skipped}
use Rattle.journal.specs.declared.opening.Opening.{Opening}
use Rattle.journal.specs.State.{has, Run, State}
use Rattle.journal.specs.Runs.{credit, note_in}
use Rattle.journal.specs.Fold.{after, closed, state_of}
use Rattle.journal.specs.Journal.{IsLegal}
use Rattle.journal.specs.Sound.{InRange, IsOpenRun, OnRun, SoundState}
use Rattle.journal.proofs.Growth.{state_snoc}
use Rattle.journal.specs.Closed.{AreClosed, closed_by, closed_runs, IsClosedRun, IsEarlier}
use Rattle.journal.specs.Entries.{TellsEntry}
use Rattle.journal.proofs.Along.{along_sound, IsNext}
use Rattle.journal.proofs.ClosedSteps.{closed_push}

at_most : (b : Bool) (m n : ℕ) → m ≤ n → (if b then m else 0) ≤ n
at_most true m n le = le
at_most false m n le = omega arith

credit_fits : (flows : List Flow) (r : Run) (f : ℕ) → unwrap_or (note_in r.notes (ingress_of flows f)) r.slots ≤ r.slots → credit flows r f ≤ r.slots
credit_fits flows r f le = at_most (has r.granted f) (unwrap_or (note_in r.notes (ingress_of flows f)) r.slots) r.slots le

later : (flows : List Flow) (next more : ℕ) (r : Run) → next ≤ more → IsClosedRun flows next r → IsClosedRun flows more r
later flows next more r le h = record { first = h.first; some = h.some; ends = omega (arith, h.ends); clear = h.clear; credits = h.credits }

pub all_later : (flows : List Flow) (next more : ℕ) (sent : ℕ → ℕ) (runs : List Run) → next ≤ more → AreClosed flows next sent runs → AreClosed flows more sent runs
all_later flows next more sent runs le h = record { each = λ k d lt. later flows next more (get_or runs k d) le (h.each k d lt); apart = h.apart; sent_is = h.sent_is }

-- an open run that is closed
pub closed_run : (flows : List Flow) (sent : ℕ → ℕ) (next : ℕ) (r : Run) → 1 ≤ next → IsOpenRun flows sent next r → IsClosedRun flows (r.first + r.slots) r
closed_run flows sent next r some h =
    record { first = omega (arith, h.first); some = h.some; ends = omega arith; clear = h.clear; credits = λ f. credit_fits flows r f (h.notes (ingress_of flows f)) }

one_more : (flows : List Flow) (sent : ℕ → ℕ) (next : ℕ) (r : Run) (runs : List Run) → 1 ≤ next → IsOpenRun flows sent next r → AreClosed flows next sent runs →
    AreClosed flows (r.first + r.slots) (λ f. sent f + credit flows r f) (runs ++ r ∷ [])
one_more flows sent next r runs some open' h = record {
  each = All-push (IsClosedRun flows (r.first + r.slots)) runs r (λ k d lt. later flows next (r.first + r.slots) (get_or runs k d) (omega (arith, open'.first)) (h.each k d lt))
      (closed_run flows sent next r some open');
  apart = all_pairs_push IsEarlier runs r h.apart (λ k d lt. omega (arith, (h.each k d lt).ends, open'.first));
  sent_is = λ f. omega (arith, h.sent_is f, sum_by_push (λ r. credit flows r f) runs r);
}

same : (flows : List Flow) (next : ℕ) (sent : ℕ → ℕ) (runs : List Run) → AreClosed flows next sent runs → AreClosed flows next sent (runs ++ [])
same flows next sent runs h = subst (AreClosed flows next sent) (sym (append-nil runs)) h

closes : (o : Opening) (s : State) (run : Option Run) (runs : List Run) → 1 ≤ s.next → OnRun run (IsOpenRun o.table.flows s.sent s.next) →
    AreClosed o.table.flows s.next s.sent runs →
    AreClosed o.table.flows (closed o s run).next (closed o s run).sent (runs ++ option_to_list run)
closes o s None runs some open' h = same o.table.flows s.next s.sent runs h
closes o s (Some r) runs some open' h = one_more o.table.flows s.sent s.next r runs some open' h

step : (o : Opening) (s : State) (k : Command) (reply : Reply) (runs : List Run) → SoundState o s → TellsEntry o s k reply → AreClosed o.table.flows s.next s.sent runs →
    AreClosed o.table.flows (after o s k reply).next (after o s k reply).sent (runs ++ closed_by reply s.run)
step o s k (Closed slot) runs sound tells h = closes o s s.run runs sound.next_some sound.open_run h
step o s k (Skipped slot) runs sound tells h = all_later o.table.flows s.next slot s.sent (runs ++ []) (omega (arith, tells.3)) (same o.table.flows s.next s.sent runs h)
step o s k reply runs sound tells h = same o.table.flows s.next s.sent runs h

-- the closed runs of a journal beside its state
abbrev pub ClosedSound : Opening → List Entry → Type 0
ClosedSound o journal = AreClosed o.table.flows (state_of o journal).next (state_of o journal).sent (closed_runs o journal)

pub closed_next : (o : Opening) (before : List Entry) (e : Entry) → IsNext o before e → SoundState o (state_of o before) → ClosedSound o before → ClosedSound o (before ++ e ∷ [])
closed_next o before e next sound h =
    let s = state_of o before in
    subst (λ (t : State). AreClosed o.table.flows t.next t.sent (closed_runs o (before ++ e ∷ []))) (sym (state_snoc o before e))
    (subst (AreClosed o.table.flows (after o s e.command e.reply).next (after o s e.command e.reply).sent) (sym (closed_push o before e))
    (step o s e.command e.reply (closed_runs o before) sound next.tells h))

pub none_closed : (o : Opening) → ClosedSound o []
none_closed o = record { each = λ k d lt. absurd (omega arith); apart = λ i j d less lt. absurd (omega arith); sent_is = λ f. refl }

pub closed_sound : (o : Opening) (journal : List Entry) → IsLegal o journal → InRange o journal → ClosedSound o journal
closed_sound o journal legal ok = along_sound o (ClosedSound o) (closed_next o) (none_closed o) journal legal ok
