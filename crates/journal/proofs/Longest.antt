-- A closed run without notes in which no flow ends has all the slots that were asked for and that were left.
use Rattle.std.proofs.Common.{◌≡◌, ℕ, ◌-◌, inl, inr, false, true≢false, List, [], ◌∷◌, ◌++◌, get_or, min, refl, sym, subst, ◌∙◌, arith, cond, Option, Some, None}
use Rattle.std.specs.Prelude.{All, not, option_to_list, ◌==◌}
use Rattle.std.specs.List.{filter}
use Rattle.std.proofs.lemmas.Bool.{cases_Bool, eq-eqb}
use Rattle.std.proofs.lemmas.List.Elements.{All-append, All-push}
use Rattle.coflow_units.specs.Grants.{IsRunLength}
use Rattle.coflow_units.proofs.Lists.{any_from}
use Rattle.journal.specs.declared.command.Entry.{Entry}
use Rattle.journal.specs.declared.command.Reply.{Reply}
use Rattle.journal.specs.declared.command.Reply.TheVariants.{Opened, Noted, Closed}
use Rattle.journal.specs.declared.opening.Opening.{Opening}
use Rattle.journal.specs.State.{owed, Run, slot_end, State}
use Rattle.journal.specs.Runs.{credit}
use Rattle.journal.specs.Fold.{after, noted_in, port_named, state_of}
use Rattle.journal.specs.Journal.{IsLegal}
use Rattle.journal.specs.Sound.{OnRun}
use Rattle.journal.specs.Closed.{IsOpenedIn}
use Rattle.journal.specs.Ends.{ends_flow, IsLongAsAsked, runs_without_end, without_end_by}
use Rattle.journal.specs.Entries.{TellsEntry}
use Rattle.journal.proofs.Along.{along}
use Rattle.journal.proofs.Ending.{end_push}
use Rattle.journal.proofs.Growth.{state_snoc}
use Rattle.journal.proofs.ScheduleTimes.{full_credit}
use Rattle.journal.proofs.WereOpened.{more_entries, none_after, opened_here, other_notes}

-- the open run is as long as its opening, the slots left and what its flows owe allow
abbrev Longest : Opening → List Entry → State → Run → Type 0
Longest o j s r = (x : IsOpenedIn o j r) × IsRunLength (owed o s) r.granted (min x.most (slot_end - r.first)) r.slots

opened_longest : (o : Opening) (j : List Entry) (e : Entry) (slot slots count : ℕ) → e.reply ≡ Opened slot slots count →
    TellsEntry o (state_of o j) e.command (Opened slot slots count) →
    OnRun (after o (state_of o j) e.command (Opened slot slots count)).run (Longest o (j ++ e ∷ []) (state_of o j))
opened_longest o j e slot slots count is (most, asks, none, owes, at, len, counted, left) =
    let tells : TellsEntry o (state_of o j) e.command (Opened slot slots count) = (most, asks, none, owes, at, len, counted, left) in
    let x = opened_here o j e slot slots count is tells in
    (x, x.longest)

later : (o : Opening) (j : List Entry) (e : Entry) (s : State) (run : Option Run) → OnRun run (Longest o j s) → OnRun run (Longest o (j ++ e ∷ []) s)
later o j e s None h = tt
later o j e s (Some r) h = (more_entries o j e r h.0, h.1)

noted : (o : Opening) (j : List Entry) (e : Entry) (s : State) (port n : ℕ) (run : Option Run) → OnRun run (Longest o j s) →
    OnRun (noted_in run port n) (Longest o (j ++ e ∷ []) s)
noted o j e s port n None h = tt
noted o j e s port n (Some r) h = (other_notes o (j ++ e ∷ []) r ((port, n) ∷ r.notes) (more_entries o j e r h.0), h.1)

run_step : (o : Opening) (j : List Entry) (e : Entry) (reply : Reply) → e.reply ≡ reply → TellsEntry o (state_of o j) e.command reply →
    OnRun (state_of o j).run (Longest o j (state_of o j)) →
    OnRun (after o (state_of o j) e.command reply).run (Longest o (j ++ e ∷ []) (after o (state_of o j) e.command reply))
run_step o j e (Opened slot slots count) is tells h = opened_longest o j e slot slots count is tells
run_step o j e (Noted n) is tells h = noted o j e (state_of o j) (port_named e.command) n (state_of o j).run h
run_step o j e (Closed slot) is tells h =
    let s = state_of o j in
    none_after o s s.run (Longest o (j ++ e ∷ []) (after o s e.command (Closed slot))) refl
run_step o j e reply is tells h = later o j e (state_of o j) (state_of o j).run h

-- ---- a run in which no flow ends

abbrev Whole : Opening → List Entry → Run → Type 0
Whole o j r = r.notes ≡ [] → IsLongAsAsked o j r

asked : (o : Opening) (j : List Entry) (s : State) (r : Run) (h : Longest o j s r) → ends_flow o s r ≡ false → r.notes ≡ [] → r.slots ≡ min h.0.most (slot_end - r.first)
asked o j s r h none unnoted = elim h.1.longest [
  | inl all ↦ all
  | inr some ↦
      let (f, in', owes) = some in
      let test = λ (f : ℕ). credit o.table.flows r f == owed o s f in
      let ends = any_from test r.granted f in' (eq-eqb (credit o.table.flows r f) (owed o s f) (full_credit o.table.flows r f unnoted in' ∙ sym owes)) in
      absurd (true≢false (sym ends ∙ none))
]

of_run : (o : Opening) (j : List Entry) (e : Entry) (s : State) (run : Option Run) → OnRun run (Longest o j s) →
    All (Whole o (j ++ e ∷ [])) (filter (λ r. not (ends_flow o s r)) (option_to_list run))
of_run o j e s None h = λ k d lt. absurd (omega arith)
of_run o j e s (Some r) h = elim (cases_Bool (ends_flow o s r)) [
  | inl ends ↦ subst (λ b. All (Whole o (j ++ e ∷ [])) (cond {A = List Run} (not b) (r ∷ []) [])) (sym ends) (λ k d lt. absurd (omega arith))
  | inr none ↦
      subst (λ b. All (Whole o (j ++ e ∷ [])) (cond {A = List Run} (not b) (r ∷ []) [])) (sym none)
      (All-push (Whole o (j ++ e ∷ [])) [] r (λ k d lt. absurd (omega arith)) (λ unnoted. (more_entries o j e r h.0, asked o j s r h none unnoted)))
]

of_reply : (o : Opening) (j : List Entry) (e : Entry) (s : State) (reply : Reply) → OnRun s.run (Longest o j s) → All (Whole o (j ++ e ∷ [])) (without_end_by o s reply)
of_reply o j e s (Closed slot) h = of_run o j e s s.run h
of_reply o j e s reply h = λ k d lt. absurd (omega arith)

still : (o : Opening) (j : List Entry) (e : Entry) (r : Run) → Whole o j r → Whole o (j ++ e ∷ []) r
still o j e r h unnoted = (more_entries o j e r (h unnoted).0, (h unnoted).1)

pub whole_without_end : (o : Opening) (journal : List Entry) → IsLegal o journal →
    All (λ (r : Run). r.notes ≡ [] → IsLongAsAsked o journal r) (runs_without_end o journal)
whole_without_end o journal legal = (along o (λ j. OnRun (state_of o j).run (Longest o j (state_of o j)) × All (Whole o j) (runs_without_end o j))
    (λ j e next h.
    let s = state_of o j in
    let runs = runs_without_end o j in (
      subst (λ (t : State). OnRun t.run (Longest o (j ++ e ∷ []) t)) (sym (state_snoc o j e)) (run_step o j e e.reply refl next.tells h.0),
      subst (All (Whole o (j ++ e ∷ []))) (sym (end_push o j e))
          (All-append (Whole o (j ++ e ∷ [])) runs (without_end_by o s e.reply) (λ k d lt. still o j e (get_or runs k d) (h.1 k d lt)) (of_reply o j e s e.reply h.0)),
    )) (tt, λ k d lt. absurd (omega arith)) journal legal).1
