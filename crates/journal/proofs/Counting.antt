-- Without notes each closed run sent a unit, so there are at most as many as units.
use Rattle.std.proofs.Common.{◌≡◌, ℕ, ◌+◌, ◌*◌, ◌≤◌, ◌<◌, inl, inr, false, true≢false, List, [], ◌∷◌, ◌++◌, Contains, length, get_or, refl, sym, ap, subst, ◌∙◌, arith, cond}
use Rattle.std.proofs.Common.{suc, Option, Some, None}
use Rattle.std.specs.Prelude.{All, count_by, option_to_list, sum_by}
use Rattle.std.specs.List.{range_with_len}
use Rattle.std.proofs.lemmas.Bool.{cases_Bool, ltb-false}
use Rattle.std.proofs.lemmas.List.{length-append}
use Rattle.std.proofs.lemmas.List.Elements.{All-append, All-contains, All-push, Contains-push}
use Rattle.std.proofs.lemmas.List.Sums.{sum_by-cons, sum_by_push}
use Rattle.coflow_units.specs.declared.fabric.Flow.{Flow}
use Rattle.coflow_units.specs.Flows.{units_of}
use Rattle.coflow_units.proofs.Lists.{by_number, number_in}
use Rattle.coflow_units.proofs.Sums.{member_within_sum, sum_add, sum_mono, sum_same, sum_swap}
use Rattle.journal.specs.declared.command.Command.{Command}
use Rattle.journal.specs.declared.command.Entry.{Entry}
use Rattle.journal.specs.declared.command.Reply.{Reply}
use Rattle.journal.specs.declared.command.Reply.TheVariants.{Opened, Noted, Closed}
use Rattle.journal.specs.declared.opening.Opening.{Opening}
use Rattle.journal.specs.State.{owed, Run, State}
use Rattle.journal.specs.Line.{line, owing}
use Rattle.journal.specs.Runs.{credit, granted}
use Rattle.journal.specs.Fold.{after, closed, state_of}
use Rattle.journal.specs.Journal.{IsLegal}
use Rattle.journal.specs.Sound.{InRange, OnRun}
use Rattle.journal.proofs.Growth.{state_snoc}
use Rattle.journal.proofs.Instances.{are_the_grants}
use Rattle.journal.proofs.Sound.{legal_sound}
use Rattle.journal.specs.Closed.{closed_by, closed_runs, IsClosedRun}
use Rattle.journal.specs.Entries.{TellsEntry}
use Rattle.journal.specs.Counts.{closings, is_closing, is_noted, is_noting, IsWhole, units_granted, units_sent}
use Rattle.journal.proofs.ClosedSteps.{closed_push}
use Rattle.journal.proofs.RunsInOrder.{closed_sound}
use Rattle.journal.proofs.Along.{all_front, along}
use Rattle.journal.proofs.ScheduleTimes.{full_credit}
use Rattle.journal.proofs.WereOpened.{opened_some, some_granted, were_opened}
use Rattle.std.proofs.Math.Nat.{one-le-mul}

-- ---- a run that is opened grants something

pub opened_grant : (o : Opening) (s : State) → 0 < length (owing o s) → (f : ℕ) × Contains (granted o s) f
opened_grant o s some = some_granted o s (granted o s) (are_the_grants o.table.flows (line s) (owed o s)) some

closed_none : (o : Opening) (s : State) (run : Option Run) → s.run ≡ run → OnRun (closed o s run).run IsWhole
closed_none o s None e = subst (λ x. OnRun x IsWhole) (sym e) tt
closed_none o s (Some r) e = tt

run_whole : (o : Opening) (s : State) (k : Command) (reply : Reply) → is_noting k ≡ false → TellsEntry o s k reply → OnRun s.run IsWhole → OnRun (after o s k reply).run IsWhole
run_whole o s k (Opened slot slots count) still tells h = (opened_grant o s tells.3, refl)
run_whole o s k (Noted n) still tells h = absurd (true≢false (ap is_noting (sym tells.4) ∙ still))
run_whole o s k (Closed slot) still tells h = closed_none o s s.run refl
run_whole o s k reply still tells h = h

none_at_all : {X : Type 0} (P : X → Type 0) → All P []
none_at_all P = λ k d lt. absurd (omega arith)

of_run : (run : Option Run) → OnRun run IsWhole → All IsWhole (option_to_list run)
of_run None h = none_at_all IsWhole
of_run (Some r) h = All-push IsWhole [] r (none_at_all IsWhole) h

closed_whole : (reply : Reply) (run : Option Run) → OnRun run IsWhole → All IsWhole (closed_by reply run)
closed_whole (Closed slot) run h = of_run run h
closed_whole reply run h = none_at_all IsWhole

closed_count : (o : Opening) (s : State) (k : Command) (reply : Reply) → TellsEntry o s k reply → cond {A = ℕ} (is_closing reply) 1 0 ≡ length (closed_by reply s.run)
closed_count o s k (Closed slot) tells = sym (ap (λ x. length (closed_by (Closed slot) x)) tells.2)
closed_count o s k reply tells = refl

-- what holds of a journal without notes
pub record IsUnnoted (o : Opening) (journal : List Entry) : Type 0 where
  pub run : OnRun (state_of o journal).run IsWhole
  pub closed : All IsWhole (closed_runs o journal)

abbrev NoNotes : List Entry → Type 0
NoNotes journal = All (λ (e : Entry). is_noting e.command ≡ false) journal

pub unnoted : (o : Opening) (journal : List Entry) → IsLegal o journal → NoNotes journal → IsUnnoted o journal
unnoted o journal legal none =
    along o (λ j. NoNotes j → IsUnnoted o j)
    (λ before e next h none.
    let s = state_of o before in
    let old = h (all_front (λ (e : Entry). is_noting e.command ≡ false) before (e ∷ []) none) in
    record {
      run =
          subst (λ (t : State). OnRun t.run IsWhole) (sym (state_snoc o before e))
          (run_whole o s e.command e.reply (All-contains (λ (e : Entry). is_noting e.command ≡ false) (before ++ e ∷ []) e none (Contains-push before e)) next.tells old.run);
      closed = subst (All IsWhole) (sym (closed_push o before e))
          (All-append IsWhole (closed_runs o before) (closed_by e.reply s.run) old.closed (closed_whole e.reply s.run old.run));
    }) (λ none. record { run = tt; closed = none_at_all IsWhole }) journal legal none

-- each Closed entry closes a run
pub closings_are : (o : Opening) (journal : List Entry) → IsLegal o journal → closings journal ≡ length (closed_runs o journal)
closings_are o journal legal =
    along o (λ j. closings j ≡ length (closed_runs o j))
    (λ before e next h.
    omega (
      arith,
      h,
      sum_by_push (λ (e : Entry). cond {A = ℕ} (is_closing e.reply) 1 0) before e,
      closed_count o (state_of o before) e.command e.reply next.tells,
      ap (λ (l : List Run). length l) (closed_push o before e),
      length-append (closed_runs o before) (closed_by e.reply (state_of o before).run),
    )) refl journal legal

-- ---- the sums

at_least_one : (w : Run → ℕ) (runs : List Run) → ((k : ℕ) (d : Run) → k < length runs → 1 ≤ w (get_or runs k d)) → length runs ≤ sum_by w runs
at_least_one w [] each = omega arith
at_least_one w (r ∷ rs) each = omega (arith, sum_by-cons w r rs, each 0 r (omega arith), at_least_one w rs (λ k d lt. each (suc k) d (omega arith)))

-- a run without notes sends at least a unit in each slot
pub whole_units : (flows : List Flow) (next : ℕ) (r : Run) → IsClosedRun flows next r → IsWhole r → r.slots ≤ sum_by (λ f. credit flows r f) (range_with_len 0 (length flows))
whole_units flows next r h whole =
    let (f, in') = whole.0 in
    let lt = All-contains (λ f. f < length flows) r.granted f h.clear.flow in' in
    omega (
      arith,
      full_credit flows r f whole.1 in',
      member_within_sum (λ f. credit flows r f) (range_with_len 0 (length flows)) f (number_in 0 (length flows) f (omega arith) (omega (arith, lt))),
    )

-- the units of a run, and of all of them
abbrev pub units_of_run : List Flow → Run → ℕ
units_of_run flows r = sum_by (λ f. credit flows r f) (range_with_len 0 (length flows))

pub units_by_runs : (o : Opening) (journal : List Entry) → IsLegal o journal → InRange o journal →
    units_sent o journal ≡ sum_by (λ r. units_of_run o.table.flows r) (closed_runs o journal)
units_by_runs o journal legal ok =
    let flows = o.table.flows in
    let runs = closed_runs o journal in
    let range = range_with_len 0 (length flows) in
    sum_same (λ f. (state_of o journal).sent f) (λ f. sum_by (λ r. credit flows r f) runs) range (λ f in'. (closed_sound o journal legal ok).sent_is f)
    ∙ sym (sum_swap (λ (r : Run) (f : ℕ). credit flows r f) runs range)

no_items : {X : Type 0} (xs : List X) → length xs ≡ 0 → xs ≡ []
no_items [] none = refl
no_items (x ∷ xs) none = absurd (omega (arith, none))

-- without notes no more runs are closed than units are sent
pub few_closings : (o : Opening) (journal : List Entry) → IsLegal o journal → InRange o journal → NoNotes journal → closings journal ≤ units_sent o journal
few_closings o journal legal ok none =
    let flows = o.table.flows in
    let runs = closed_runs o journal in
    let next = (state_of o journal).next in
    let h = closed_sound o journal legal ok in
    let whole = (unnoted o journal legal none).closed in
    let many = at_least_one (λ r. units_of_run flows r) runs
    (λ k d lt. omega (arith, (h.each k d lt).some, whole_units flows next (get_or runs k d) (h.each k d lt) (whole k d lt))) in
    omega (arith, closings_are o journal legal, many, units_by_runs o journal legal ok)

-- nor more than that and the runs with notes
some_or_noted : (flows : List Flow) (next : ℕ) (r : Run) → IsClosedRun flows next r → (f : ℕ) × Contains r.granted f →
    1 ≤ units_of_run flows r + cond {A = ℕ} (is_noted r) 1 0
some_or_noted flows next r h some = elim (cases_Bool (is_noted r)) [
  | inl yes' ↦ omega (arith, ap {B = ℕ} (λ b. cond b 1 0) yes')
  | inr not' ↦ omega (arith, h.some, whole_units flows next r h (some, no_items r.notes (omega (arith, ltb-false 0 (length r.notes) not'))))
]

pub noted_closings : (o : Opening) (journal : List Entry) → IsLegal o journal → InRange o journal →
    closings journal ≤ units_sent o journal + count_by is_noted (closed_runs o journal)
noted_closings o journal legal ok =
    let flows = o.table.flows in
    let runs = closed_runs o journal in
    let next = (state_of o journal).next in
    let h = closed_sound o journal legal ok in
    let opened = (were_opened o journal legal).1 in
    let many = at_least_one (λ r. units_of_run flows r + cond {A = ℕ} (is_noted r) 1 0) runs
    (λ k d lt. some_or_noted flows next (get_or runs k d) (h.each k d lt) (opened_some o journal (get_or runs k d) legal (opened k d lt))) in
    omega (arith, closings_are o journal legal, many, sum_add (λ r. units_of_run flows r) (λ r. cond {A = ℕ} (is_noted r) 1 0) runs, units_by_runs o journal legal ok)

-- nor more than units were granted
pub granted_closings : (o : Opening) (journal : List Entry) → IsLegal o journal → InRange o journal → closings journal ≤ units_granted (closed_runs o journal)
granted_closings o journal legal ok =
    let runs = closed_runs o journal in
    let h = closed_sound o journal legal ok in
    let opened = (were_opened o journal legal).1 in
    let many = at_least_one (λ (r : Run). r.slots * length r.granted) runs
    (λ k d lt.
    let (f, in') = opened_some o journal (get_or runs k d) legal (opened k d lt) in
    one-le-mul (h.each k d lt).some (omega (arith, in'.1))) in
    omega (arith, closings_are o journal legal, many)

-- no more units are sent than the flows have
pub units_within : (o : Opening) (journal : List Entry) → IsLegal o journal → InRange o journal → units_sent o journal ≤ sum_by (λ (x : Flow). x.units) o.table.flows
units_within o journal legal ok =
    let flows = o.table.flows in
    let range = range_with_len 0 (length flows) in
    let less = sum_mono (λ f. (state_of o journal).sent f) (λ f. units_of flows f) range (λ f in'. (legal_sound o journal legal ok).within f) in
    omega (arith, less, by_number (λ (x : Flow). x.units) (record { coflow = 0; ingress = 0; egress = 0; units = 0 }) flows)
