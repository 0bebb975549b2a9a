-- How the schedule goes on along a legal journal, and what leaves it.
use Rattle.std.proofs.Common.{◌≡◌, ℕ, ◌+◌, ◌-◌, ◌≤◌, true, List, [], ◌∷◌, ◌++◌, length, sym, ap, subst, ◌∙◌, arith, append-nil, Option, Some, None}
use Rattle.std.specs.Prelude.{All, option_to_list}
use Rattle.std.specs.List.{flat_map, range_with_len}
use Rattle.std.proofs.lemmas.List.{length-map}
use Rattle.std.proofs.lemmas.List.FromFn.{length-range_with_len}
use Rattle.coflow_units.specs.declared.fabric.Flow.{Flow}
use Rattle.journal.specs.declared.command.Command.{Command}
use Rattle.journal.specs.declared.command.Entry.{Entry}
use Rattle.journal.specs.declared.command.Reply.{Reply}
use Rattle.journal.specs.declared.command.Reply.TheVariants.{Closed, Skipped}
use Rattle.journal.specs.declared.opening.Opening.{Opening}
use Rattle.journal.specs.State.{Run, State}
use Rattle.journal.specs.Fold.{after, closed, state_of}
use Rattle.journal.specs.Answer.{in_range}
use Rattle.journal.specs.Journal.{IsLegal}
use Rattle.journal.specs.Sound.{InRange, IsOpenRun, OnRun, SoundState}
use Rattle.journal.proofs.Growth.{state_snoc}
use Rattle.journal.proofs.Sound.{legal_sound}
use Rattle.journal.specs.Closed.{closed_by, closed_runs, flows_in, IsClosedRun, schedule_of, slots_added, slots_in}
use Rattle.journal.specs.Entries.{TellsEntry}
use Rattle.journal.proofs.ClosedSteps.{closed_push}
use Rattle.journal.proofs.RunsInOrder.{closed_next, closed_sound, ClosedSound, none_closed}
use Rattle.journal.proofs.RunSlots.{slots_before, slots_pass, slots_run}
use Rattle.journal.proofs.Along.{all_front, along_more, along_sound, IsNext, next_of}

-- ---- one entry

closing : (o : Opening) (s : State) (run : Option Run) (runs : List Run) → 1 ≤ s.next → OnRun run (IsOpenRun o.table.flows s.sent s.next) →
    All (IsClosedRun o.table.flows s.next) runs →
    slots_before o.table.flows (runs ++ option_to_list run) (closed o s run).next ≡ slots_before o.table.flows runs s.next ++ flat_map (slots_in o.table.flows) (option_to_list run)
closing o s None runs some open' all = ap (λ l. slots_before o.table.flows l s.next) (append-nil runs) ∙ sym (append-nil (slots_before o.table.flows runs s.next))
closing o s (Some r) runs some open' all =
    ap (λ n. slots_before o.table.flows (runs ++ r ∷ []) (n + r.slots)) open'.first ∙ slots_run o.table.flows runs r s.next some open'.first all
    ∙ ap (λ l. slots_before o.table.flows runs s.next ++ l) (sym (append-nil (slots_in o.table.flows r)))

unchanged : (flows : List Flow) (runs : List Run) (next : ℕ) → slots_before flows (runs ++ []) next ≡ slots_before flows runs next ++ []
unchanged flows runs next = ap (λ l. slots_before flows l next) (append-nil runs) ∙ sym (append-nil (slots_before flows runs next))

step : (o : Opening) (s : State) (k : Command) (reply : Reply) (runs : List Run) → SoundState o s → TellsEntry o s k reply → All (IsClosedRun o.table.flows s.next) runs →
    slots_before o.table.flows (runs ++ closed_by reply s.run) (after o s k reply).next ≡ slots_before o.table.flows runs s.next ++ slots_added o.table.flows s.next s.run reply
step o s k (Closed slot) runs sound tells all = closing o s s.run runs sound.next_some sound.open_run all
step o s k (Skipped slot) runs sound tells all =
    let e : slot ≡ s.next + (slot - s.next) = omega (arith, tells.3) in
    ap (λ l. slots_before o.table.flows l slot) (append-nil runs) ∙ ap (slots_before o.table.flows runs) e ∙
    slots_pass o.table.flows runs s.next (slot - s.next) sound.next_some all
step o s k reply runs sound tells all = unchanged o.table.flows runs s.next

next_push : (o : Opening) (before : List Entry) (e : Entry) → IsNext o before e → SoundState o (state_of o before) → ClosedSound o before →
    schedule_of o (before ++ e ∷ []) ≡ schedule_of o before ++ slots_added o.table.flows (state_of o before).next (state_of o before).run e.reply
next_push o before e next sound h =
    let s = state_of o before in
    ap (λ (t : State). slots_before o.table.flows (closed_runs o (before ++ e ∷ [])) t.next) (state_snoc o before e)
    ∙ ap (λ l. slots_before o.table.flows l (after o s e.command e.reply).next) (closed_push o before e) ∙ step o s e.command e.reply (closed_runs o before) sound next.tells h.each

pub schedule_push : (o : Opening) (before : List Entry) (e : Entry) → IsLegal o (before ++ e ∷ []) → InRange o before →
    schedule_of o (before ++ e ∷ []) ≡ schedule_of o before ++ slots_added o.table.flows (state_of o before).next (state_of o before).run e.reply
schedule_push o before e legal ok =
    let next = next_of o before [] e legal in
    next_push o before e next (legal_sound o before next.legal ok) (closed_sound o before next.legal ok)

-- what holds of no slots, and goes on by the slots that each entry adds, holds of the schedule
pub along_schedule : (o : Opening) (P : List (List ℕ) → State → Type 0) →
    ((s : State) (k : Command) (reply : Reply) (slots : List (List ℕ)) → SoundState o s → TellsEntry o s k reply → P slots s →
    P (slots ++ slots_added o.table.flows s.next s.run reply) (after o s k reply)) →
    P [] (state_of o []) → (journal : List Entry) → IsLegal o journal → InRange o journal → P (schedule_of o journal) (state_of o journal)
along_schedule o P step none journal legal ok = (along_sound o (λ j. ClosedSound o j × P (schedule_of o j) (state_of o j))
    (λ before e next sound h.
    let s = state_of o before in (
      closed_next o before e next sound h.0,
      subst (λ (t : State). P (schedule_of o (before ++ e ∷ [])) t) (sym (state_snoc o before e))
          (subst (λ l. P l (after o s e.command e.reply)) (sym (next_push o before e next sound h.0)) (step s e.command e.reply (schedule_of o before) sound next.tells h.1)),
    )) (none_closed o, none) journal legal ok).1

-- ---- lengths

pub schedule_length : (o : Opening) (journal : List Entry) → IsLegal o journal → InRange o journal → length (schedule_of o journal) + 1 ≡ (state_of o journal).next
schedule_length o journal legal ok =
    let n = (state_of o journal).next - 1 in
    omega (arith, length-map (range_with_len 1 n) (flows_in o.table.flows (closed_runs o journal)), length-range_with_len 1 n, (legal_sound o journal legal ok).next_some)

-- ---- the next slot

next_step : (o : Opening) (s : State) (run : Option Run) → OnRun run (IsOpenRun o.table.flows s.sent s.next) → s.next ≤ (closed o s run).next
next_step o s None open' = omega arith
next_step o s (Some r) open' = omega (arith, open'.first)

pub next_rises : (o : Opening) (s : State) (k : Command) (reply : Reply) → SoundState o s → TellsEntry o s k reply → s.next ≤ (after o s k reply).next
next_rises o s k (Closed slot) sound tells = next_step o s s.run sound.open_run
next_rises o s k (Skipped slot) sound tells = omega (arith, tells.3)
next_rises o s k reply sound tells = omega arith

pub next_never_falls : (o : Opening) (before more : List Entry) → IsLegal o (before ++ more) → InRange o (before ++ more) →
    (state_of o before).next ≤ (state_of o (before ++ more)).next
next_never_falls o before more legal ok =
    along_more o (λ j. InRange o j → (state_of o before).next ≤ (state_of o j).next)
    (λ j e next h ok.
    let front = all_front (λ (e : Entry). in_range o e.command ≡ true) j (e ∷ []) ok in
    omega (arith, h front, next_rises o (state_of o j) e.command e.reply (legal_sound o j next.legal front) next.tells, ap (λ (t : State). t.next) (state_snoc o j e))) before more
    legal (λ ok. omega arith) ok
