-- What the entries that move a run do.
use Rattle.std.proofs.Common.{◌≡◌, ℕ, ◌+◌, List, [], ◌∷◌, ◌++◌, refl, sym, ap, subst, ◌∙◌, arith, append-nil, Some, Option}
use Rattle.std.specs.List.{flat_map}
use Rattle.journal.specs.declared.command.Entry.{Entry}
use Rattle.journal.specs.declared.command.Reply.{Reply}
use Rattle.journal.specs.declared.command.Reply.TheVariants.{Opened, Noted, Closed, Skipped}
use Rattle.journal.specs.declared.opening.Opening.{Opening}
use Rattle.journal.specs.State.{Run, State}
use Rattle.journal.specs.Runs.{granted}
use Rattle.journal.specs.Fold.{after, closed, noted_in, port_named, state_of}
use Rattle.journal.specs.Journal.{IsLegal}
use Rattle.journal.specs.Sound.{InRange, IsOpenRun, OnRun}
use Rattle.journal.proofs.Growth.{state_snoc}
use Rattle.journal.proofs.Opened.{opened_grants}
use Rattle.journal.proofs.Sound.{legal_sound}
use Rattle.journal.specs.Closed.{closed_by, closed_runs, schedule_of, sent_at, slots_added, slots_in, wire_of}
use Rattle.journal.specs.Entries.{is_passing, TellsEntry}
use Rattle.journal.specs.Moves.{ClosesRun, NotesRun, OpensRun, SkipsSlots}
use Rattle.journal.proofs.ClosedSteps.{closed_push, wire_push}
use Rattle.journal.proofs.Leaving.{slots_push}
use Rattle.journal.proofs.Schedules.{schedule_push}
use Rattle.journal.proofs.Along.{next_of}

tells_of : (o : Opening) (before : List Entry) (e : Entry) (reply : Reply) → IsLegal o (before ++ e ∷ []) → e.reply ≡ reply → TellsEntry o (state_of o before) e.command reply
tells_of o before e reply legal is = subst (TellsEntry o (state_of o before) e.command) is (next_of o before [] e legal).tells

pub by_opening : (o : Opening) (before : List Entry) (e : Entry) (first slots count : ℕ) → IsLegal o (before ++ e ∷ []) → e.reply ≡ Opened first slots count →
    OpensRun o before (before ++ e ∷ []) (record { first = first; slots = slots; granted = granted o (state_of o before); notes = [] })
by_opening o before e first slots count legal is =
    let tells = tells_of o before e (Opened first slots count) legal is in
    record {
      run_before = tells.2;
      run_after = (opened_grants o before e first slots count is).0;
      first = tells.4;
      grants = refl;
      no_notes = refl;
      leaves = slots_push o before e (ap is_passing is);
    }

pub by_note : (o : Opening) (before : List Entry) (e : Entry) (n : ℕ) → IsLegal o (before ++ e ∷ []) → e.reply ≡ Noted n →
    (r : Run) × (port : ℕ) × NotesRun o before (before ++ e ∷ []) r port n
by_note o before e n legal is =
    let s = state_of o before in
    let (port, units, f, r, asks, open', grant, least) = tells_of o before e (Noted n) legal is in (
      r,
      port,
      record {
        run_before = open';
        run_after = ap (λ (t : State). t.run) (state_snoc o before e) ∙ ap (λ x. (after o s e.command x).run) is ∙ ap (λ k. noted_in s.run (port_named k) n) asks ∙
            ap (λ x. noted_in x port n) open';
        leaves = slots_push o before e (ap is_passing is);
      },
    )

begins : (o : Opening) (s : State) (run : Option Run) (r : Run) → run ≡ Some r → OnRun run (IsOpenRun o.table.flows s.sent s.next) → r.first ≡ s.next
begins o s run r is h = let x : IsOpenRun o.table.flows s.sent s.next r = subst (λ y. OnRun y (IsOpenRun o.table.flows s.sent s.next)) is h in x.first

pub by_closing : (o : Opening) (before : List Entry) (e : Entry) (slot : ℕ) → IsLegal o (before ++ e ∷ []) → InRange o before → e.reply ≡ Closed slot →
    (r : Run) × (r.first ≡ slot) × ClosesRun o before (before ++ e ∷ []) r
by_closing o before e slot legal ok is =
    let s = state_of o before in
    let flows = o.table.flows in
    let (r, asks, open', at) = tells_of o before e (Closed slot) legal is in
    let next = next_of o before [] e legal in
    let first = begins o s s.run r open' (legal_sound o before next.legal ok).open_run in
    let state : state_of o (before ++ e ∷ []) ≡ closed o s (Some r) = state_snoc o before e ∙ ap (λ x. after o s e.command x) is ∙ ap (closed o s) open' in
    let added : closed_by e.reply s.run ≡ r ∷ [] = ap (λ x. closed_by x s.run) is ∙ ap (λ x. closed_by (Closed slot) x) open' in (
      r,
      sym at,
      record {
        run_before = open';
        run_after = ap (λ (t : State). t.run) state;
        first = first;
        next = ap (λ (t : State). t.next) state ∙ ap (λ n. n + r.slots) first;
        sent = λ f. ap (λ (t : State). t.sent f) state;
        closed = closed_push o before e ∙ ap (λ l. closed_runs o before ++ l) added;
        schedule = schedule_push o before e legal ok ∙ ap (λ x. schedule_of o before ++ slots_added flows s.next s.run x) is
            ∙ ap (λ x. schedule_of o before ++ slots_added flows s.next x (Closed slot)) open' ∙ ap (λ l. schedule_of o before ++ l) (append-nil (slots_in flows r));
        wire = λ port. wire_push o before e port ∙ ap (λ l. wire_of o before port ++ flat_map (sent_at flows port) l) added ∙
            ap (λ l. wire_of o before port ++ l) (append-nil (sent_at flows port r));
      },
    )

pub by_skip : (o : Opening) (before : List Entry) (e : Entry) (to : ℕ) → IsLegal o (before ++ e ∷ []) → InRange o before → e.reply ≡ Skipped to →
    SkipsSlots o before (before ++ e ∷ []) to
by_skip o before e to legal ok is =
    let s = state_of o before in
    let flows = o.table.flows in
    let tells = tells_of o before e (Skipped to) legal is in
    let state : state_of o (before ++ e ∷ []) ≡ record s { next = to } = state_snoc o before e ∙ ap (λ x. after o s e.command x) is in
    let added : closed_by e.reply s.run ≡ [] = ap (λ x. closed_by x s.run) is in
    record {
      run_before = tells.2;
      run_after = ap (λ (t : State). t.run) state ∙ tells.2;
      later = omega (arith, tells.3);
      next = ap (λ (t : State). t.next) state;
      sent = λ f. ap (λ (t : State). t.sent f) state;
      closed = closed_push o before e ∙ ap (λ l. closed_runs o before ++ l) added ∙ append-nil (closed_runs o before);
      schedule = schedule_push o before e legal ok ∙ ap (λ x. schedule_of o before ++ slots_added flows s.next s.run x) is;
      wire = λ port. wire_push o before e port ∙ ap (λ l. wire_of o before port ++ flat_map (sent_at flows port) l) added ∙ append-nil (wire_of o before port);
    }
