-- Where nothing was noted and no slot was skipped the schedule is that of the runs.
use Rattle.std.proofs.Common.{◌≡◌, ℕ, true, false, true≢false, List, [], ◌∷◌, ◌++◌, map, replicate, refl, sym, ap, ◌∙◌, Option, Some, None}
use Rattle.std.specs.Prelude.{All, option_to_list}
use Rattle.std.specs.List.{flat_map}
use Rattle.std.proofs.lemmas.List.{map-append}
use Rattle.std.proofs.lemmas.List.Concat.{flat_map-append}
use Rattle.std.proofs.lemmas.List.Elements.{All-contains, Contains-push}
use Rattle.coflow_units.specs.declared.fabric.Flow.{Flow}
use Rattle.coflow_units.specs.Schedule.{slots_of}
use Rattle.journal.specs.declared.command.Command.{Command}
use Rattle.journal.specs.declared.command.Entry.{Entry}
use Rattle.journal.specs.declared.command.Reply.{Reply}
use Rattle.journal.specs.declared.command.Reply.TheVariants.{Closed, Skipped}
use Rattle.journal.specs.declared.opening.Opening.{Opening}
use Rattle.journal.specs.State.{Run, State}
use Rattle.journal.specs.Fold.{state_of}
use Rattle.journal.specs.Answer.{in_range}
use Rattle.journal.specs.Journal.{IsLegal}
use Rattle.journal.specs.Sound.{InRange, OnRun}
use Rattle.journal.specs.Closed.{closed_by, closed_runs, schedule_of, slots_added, slots_in}
use Rattle.journal.specs.Entries.{TellsEntry}
use Rattle.journal.specs.Counts.{is_noting, is_skipping, IsWhole, run_line}
use Rattle.journal.proofs.Counting.{unnoted}
use Rattle.journal.proofs.ClosedSteps.{closed_push}
use Rattle.journal.proofs.Schedules.{schedule_push}
use Rattle.journal.proofs.Along.{all_front, along}
use Rattle.journal.proofs.ScheduleTimes.{unnoted_slots}

lines_push : (runs more : List Run) → slots_of (map run_line (runs ++ more)) ≡ slots_of (map run_line runs) ++ slots_of (map run_line more)
lines_push runs more = ap slots_of (map-append run_line runs more) ∙ flat_map-append (λ (r : ℕ × List ℕ). replicate r.0 r.1) (map run_line runs) (map run_line more)

of_run : (flows : List Flow) (run : Option Run) → OnRun run IsWhole → flat_map (slots_in flows) (option_to_list run) ≡ slots_of (map run_line (option_to_list run))
of_run flows None h = refl
of_run flows (Some r) h = ap (λ l. l ++ []) (unnoted_slots flows r h.1)

step : (o : Opening) (s : State) (k : Command) (reply : Reply) → is_skipping k ≡ false → TellsEntry o s k reply → OnRun s.run IsWhole →
    slots_added o.table.flows s.next s.run reply ≡ slots_of (map run_line (closed_by reply s.run))
step o s k (Closed slot) still tells h = of_run o.table.flows s.run h
step o s k (Skipped slot) still tells h = absurd (true≢false (ap is_skipping (sym tells.1) ∙ still))
step o s k reply still tells h = refl

abbrev IsPlain : Entry → Type 0
IsPlain e = (is_noting e.command ≡ false) × (is_skipping e.command ≡ false)

pub schedule_by_runs : (o : Opening) (journal : List Entry) → IsLegal o journal → InRange o journal →
    All (λ (e : Entry). (is_noting e.command ≡ false) × (is_skipping e.command ≡ false)) journal →
    schedule_of o journal ≡ slots_of (map run_line (closed_runs o journal))
schedule_by_runs o journal legal ok plain =
    along o (λ j. IsLegal o j → InRange o j → All IsPlain j → schedule_of o j ≡ slots_of (map run_line (closed_runs o j)))
    (λ before e next h legal ok plain.
    let s = state_of o before in
    let front = all_front (λ (e : Entry). in_range o e.command ≡ true) before (e ∷ []) ok in
    let old = all_front IsPlain before (e ∷ []) plain in
    let here : IsPlain e = All-contains IsPlain (before ++ e ∷ []) e plain (Contains-push before e) in
    schedule_push o before e legal front ∙ ap (λ l. l ++ slots_added o.table.flows s.next s.run e.reply) (h next.legal front old)
    ∙ ap (λ l. slots_of (map run_line (closed_runs o before)) ++ l) (step o s e.command e.reply here.1 next.tells (unnoted o before next.legal (λ k d lt. (old k d lt).0)).run)
    ∙ sym (ap (λ l. slots_of (map run_line l)) (closed_push o before e) ∙ lines_push (closed_runs o before) (closed_by e.reply s.run))) (λ legal ok plain. refl) journal legal legal
    ok plain

-- the closed runs of a journal without notes
pub unnoted_runs : (o : Opening) (journal : List Entry) → IsLegal o journal → All (λ (e : Entry). is_noting e.command ≡ false) journal → All IsWhole (closed_runs o journal)
unnoted_runs o journal legal none = (unnoted o journal legal none).closed
