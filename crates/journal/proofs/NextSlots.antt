-- How far the next slot lies past the furthest skip.
use Rattle.std.proofs.Common.{◌≡◌, ℕ, ◌+◌, ◌≤◌, ◌<◌, inl, inr, false, List, [], ◌∷◌, ◌++◌, Contains, max, refl, sym, ap, subst, ◌∙◌, arith, append-nil, Option, Some, None}
use Rattle.std.specs.Prelude.{All, option_to_list, sum_by}
use Rattle.std.proofs.lemmas.Bool.{cases_lt}
use Rattle.std.proofs.lemmas.List.Elements.{All-contains, Contains-append_left, Contains-push}
use Rattle.std.proofs.lemmas.List.Sums.{sum_by_push}
use Rattle.coflow_units.proofs.Sums.{sum_mono}
use Rattle.journal.specs.declared.command.Command.{Command}
use Rattle.journal.specs.declared.command.Entry.{Entry}
use Rattle.journal.specs.declared.command.Reply.{Reply}
use Rattle.journal.specs.declared.command.Reply.TheVariants.{Closed, Skipped}
use Rattle.journal.specs.declared.opening.Opening.{Opening}
use Rattle.journal.specs.State.{Run, State}
use Rattle.journal.specs.Fold.{after, closed, state_of}
use Rattle.journal.specs.Journal.{IsLegal}
use Rattle.journal.specs.Sound.{InRange, IsOpenRun, OnRun, SoundState}
use Rattle.journal.specs.Closed.{closed_by, closed_runs, IsClosedRun}
use Rattle.journal.specs.Counts.{furthest_skip, IsSlotOf, IsWhole, is_noting, skipped_to, slots_together, units_sent}
use Rattle.journal.specs.Entries.{TellsEntry}
use Rattle.journal.proofs.Along.{along_sound}
use Rattle.journal.proofs.ClosedSteps.{closed_push}
use Rattle.journal.proofs.Counting.{units_by_runs, units_of_run, unnoted, whole_units}
use Rattle.journal.proofs.Growth.{state_snoc}
use Rattle.journal.proofs.RunsInOrder.{closed_sound}

furthest_push : (journal : List Entry) (e : Entry) → furthest_skip (journal ++ e ∷ []) ≡ max (furthest_skip journal) (skipped_to e.reply)
furthest_push [] e = omega arith
furthest_push (x ∷ xs) e = omega (arith, furthest_push xs e)

-- ---- the slots of the closed runs

-- from one slot up to another each slot is of one of the runs
abbrev Covers : List Run → ℕ → ℕ → Type 0
Covers runs low high = (slot : ℕ) → low ≤ slot → slot < high → (r : Run) × Contains runs r × IsSlotOf slot r

-- what is known of runs that closed, of the furthest skip, and of the next slot
record IsFew (runs : List Run) (skip next : ℕ) : Type 0 where
  passed : Covers runs skip next
  few : next ≤ skip + slots_together runs

few_same : (runs : List Run) (skip more next : ℕ) → skip ≤ more → next ≤ more + slots_together runs → IsFew runs skip next → IsFew (runs ++ []) more next
few_same runs skip more next le few h =
    subst (λ l. IsFew l more next) (sym (append-nil runs)) (record { passed = λ slot low high. h.passed slot (omega (arith, low, le)) high; few = few })

closing : (o : Opening) (s : State) (run : Option Run) (runs : List Run) (skip : ℕ) → OnRun run (IsOpenRun o.table.flows s.sent s.next) → IsFew runs skip s.next →
    IsFew (runs ++ option_to_list run) (max skip 1) (closed o s run).next
closing o s None runs skip open' h = few_same runs skip (max skip 1) s.next (omega arith) (omega (arith, h.few)) h
closing o s (Some r) runs skip open' h = record {
  passed = λ slot low high. elim (cases_lt slot s.next) [
    | inl lt ↦
        let (x, in', is) = h.passed slot (omega (arith, low)) lt in
        (x, Contains-append_left runs (r ∷ []) x in', is)
    | inr ge ↦ (r, Contains-push runs r, (omega (arith, ge, open'.first), high))
  ];
  few = omega (arith, h.few, open'.first, sum_by_push (λ (r : Run). r.slots) runs r);
}

step : (o : Opening) (s : State) (k : Command) (reply : Reply) (runs : List Run) (skip : ℕ) → SoundState o s → TellsEntry o s k reply → IsFew runs skip s.next →
    IsFew (runs ++ closed_by reply s.run) (max skip (skipped_to reply)) (after o s k reply).next
step o s k (Closed slot) runs skip sound tells h = closing o s s.run runs skip sound.open_run h
step o s k (Skipped slot) runs skip sound tells h =
    subst (λ l. IsFew l (max skip slot) slot) (sym (append-nil runs)) (record { passed = λ x low high. absurd (omega (arith, low, high)); few = omega arith })
step o s k reply runs skip sound tells h = few_same runs skip (max skip 1) s.next (omega arith) (omega (arith, h.few)) h

few_along : (o : Opening) (journal : List Entry) → IsLegal o journal → InRange o journal → IsFew (closed_runs o journal) (furthest_skip journal) (state_of o journal).next
few_along o journal legal ok =
    along_sound o (λ j. IsFew (closed_runs o j) (furthest_skip j) (state_of o j).next)
    (λ before e next sound h.
    let s = state_of o before in
    subst (λ (t : State). IsFew (closed_runs o (before ++ e ∷ [])) (furthest_skip (before ++ e ∷ [])) t.next) (sym (state_snoc o before e))
    (subst (λ l. IsFew l (furthest_skip (before ++ e ∷ [])) (after o s e.command e.reply).next) (sym (closed_push o before e))
    (subst (λ n. IsFew (closed_runs o before ++ closed_by e.reply s.run) n (after o s e.command e.reply).next) (sym (furthest_push before e))
    (step o s e.command e.reply (closed_runs o before) (furthest_skip before) sound next.tells h))))
    (record { passed = λ slot low high. absurd (omega (arith, low, high)); few = omega arith }) journal legal ok

pub passed : (o : Opening) (journal : List Entry) (slot : ℕ) → IsLegal o journal → InRange o journal → furthest_skip journal ≤ slot → slot < (state_of o journal).next →
    (r : Run) × Contains (closed_runs o journal) r × IsSlotOf slot r
passed o journal slot legal ok low high = (few_along o journal legal ok).passed slot low high

pub few_by_runs : (o : Opening) (journal : List Entry) → IsLegal o journal → InRange o journal →
    (state_of o journal).next ≤ furthest_skip journal + slots_together (closed_runs o journal)
few_by_runs o journal legal ok = (few_along o journal legal ok).few

-- ---- without notes

pub few_by_units : (o : Opening) (journal : List Entry) → IsLegal o journal → InRange o journal → All (λ (e : Entry). is_noting e.command ≡ false) journal →
    (state_of o journal).next ≤ furthest_skip journal + units_sent o journal
few_by_units o journal legal ok none =
    let flows = o.table.flows in
    let runs = closed_runs o journal in
    let next = (state_of o journal).next in
    let h = closed_sound o journal legal ok in
    let whole = (unnoted o journal legal none).closed in
    let less = sum_mono (λ (r : Run). r.slots) (λ r. units_of_run flows r) runs
    (λ r in'. whole_units flows next r (All-contains (IsClosedRun flows next) runs r h.each in') (All-contains IsWhole runs r whole in')) in
    omega (arith, few_by_runs o journal legal ok, less, units_by_runs o journal legal ok)
