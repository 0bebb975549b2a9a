-- Each closing ends a flow, or closes a run in which none ends.
use Rattle.std.proofs.Common.{◌≡◌, ℕ, ◌+◌, ◌-◌, ◌≤◌, ◌<◌, inl, inr, Bool, List, [], ◌∷◌, ◌++◌, Contains, length, refl, sym, ap, subst, ◌∙◌, arith, cond}
use Rattle.std.proofs.Common.{append_assoc, append-nil, Option, Some, None}
use Rattle.std.specs.Prelude.{count_by, not, option_to_list, ◌==◌}
use Rattle.std.specs.List.{filter, range_with_len}
use Rattle.std.proofs.lemmas.Bool.{cases_Bool, cases_eq, eq-eqb, eqb-true, ne_eqb}
use Rattle.std.proofs.lemmas.List.{length-append}
use Rattle.std.proofs.lemmas.List.Elements.{All-contains, Contains-append_cases, Contains-append_left, Contains-append_right}
use Rattle.std.proofs.lemmas.List.Sums.{count_by-le-length, sum_by_push}
use Rattle.std.proofs.lemmas.List.FromFn.{length-range_with_len}
use Rattle.coflow_units.proofs.Lists.{number_in, any_where}
use Rattle.coflow_units.proofs.Sums.{member_within_sum, sum_add, sum_mono}
use Rattle.journal.specs.declared.command.Command.{Command}
use Rattle.journal.specs.declared.command.Entry.{Entry}
use Rattle.journal.specs.declared.command.Reply.{Reply}
use Rattle.journal.specs.declared.command.Reply.TheVariants.{Closed}
use Rattle.journal.specs.declared.opening.Opening.{Opening}
use Rattle.journal.specs.State.{owed, Run, State}
use Rattle.journal.specs.Runs.{credit}
use Rattle.journal.specs.Fold.{after, closed, start, state_from, state_of}
use Rattle.journal.specs.Journal.{IsLegal}
use Rattle.journal.specs.Sound.{InRange, IsOpenRun, OnRun, SoundState}
use Rattle.journal.specs.Closed.{closed_by, closed_from, closed_runs}
use Rattle.journal.specs.Counts.{closings, is_closing}
use Rattle.journal.specs.Ends.{ends_flow, flows_ended, runs_without_end, without_end_by, without_end_from}
use Rattle.journal.specs.Entries.{TellsEntry}
use Rattle.journal.proofs.Along.{along_sound}
use Rattle.journal.proofs.Growth.{state_snoc}

-- ---- the runs in which no flow ends

end_append : (o : Opening) (s : State) (xs ys : List Entry) → without_end_from o s (xs ++ ys) ≡ without_end_from o s xs ++ without_end_from o (state_from o s xs) ys
end_append o s [] ys = refl
end_append o s (e ∷ es) ys =
    let next = after o s e.command e.reply in
    ap (λ l. without_end_by o s e.reply ++ l) (end_append o next es ys) ∙
    sym (append_assoc (without_end_by o s e.reply) (without_end_from o next es) (without_end_from o (state_from o next es) ys))

-- an entry adds the run that it closes, where no flow ends in it
pub end_push : (o : Opening) (journal : List Entry) (e : Entry) →
    runs_without_end o (journal ++ e ∷ []) ≡ runs_without_end o journal ++ without_end_by o (state_of o journal) e.reply
end_push o journal e = end_append o (start o) journal (e ∷ []) ∙ ap (λ l. runs_without_end o journal ++ l) (append-nil (without_end_by o (state_of o journal) e.reply))

kept_in : {X : Type 0} (p : X → Bool) (xs : List X) (x : X) → Contains (filter p xs) x → Contains xs x
kept_in p [] x in' = in'
kept_in p (y ∷ ys) x in' = elim (cases_Bool (p y)) [
  | inl yes' ↦ elim (Contains-append_cases (y ∷ []) (filter p ys) x (subst (λ b. Contains (cond b (y ∷ filter p ys) (filter p ys)) x) yes' in')) [
    | inl one ↦ Contains-append_left (y ∷ []) ys x one
    | inr more ↦ Contains-append_right (y ∷ []) ys x (kept_in p ys x more)
  ]
  | inr not' ↦ Contains-append_right (y ∷ []) ys x (kept_in p ys x (subst (λ b. Contains (cond b (y ∷ filter p ys) (filter p ys)) x) not' in'))
]

among_from : (o : Opening) (s : State) (es : List Entry) (r : Run) → Contains (without_end_from o s es) r → Contains (closed_from o s es) r
among_from o s [] r in' = in'
among_from o s (e ∷ es) r in' =
    let next = after o s e.command e.reply in
    elim (Contains-append_cases (without_end_by o s e.reply) (without_end_from o next es) r in') [
      | inl here ↦ Contains-append_left (closed_by e.reply s.run) (closed_from o next es) r (kept_in (λ r. not (ends_flow o s r)) (closed_by e.reply s.run) r here)
      | inr later ↦ Contains-append_right (closed_by e.reply s.run) (closed_from o next es) r (among_from o next es r later)
    ]

pub ends_among : (o : Opening) (journal : List Entry) (r : Run) → Contains (runs_without_end o journal) r → Contains (closed_runs o journal) r
ends_among o journal r in' = among_from o (start o) journal r in'

-- ---- the flows that end

abbrev one : Bool → ℕ
one b = cond b 1 0

abbrev ended : Opening → State → ℕ
ended o s = count_by (λ f. owed o s f == 0) (range_with_len 0 (length o.table.flows))

no_less : (a b : ℕ) → b ≤ a → one (a == 0) ≤ one (b == 0)
no_less a b le = elim (cases_eq a 0) [
  | inl nought ↦ omega (arith, ap one (eq-eqb b 0 (omega (arith, nought, le))), ap one (eq-eqb a 0 nought))
  | inr some ↦ omega (arith, ap one (ne_eqb a 0 some))
]

-- where what is owed falls, no fewer flows owe nothing
none_lost : (left more : ℕ → ℕ) (xs : List ℕ) → ((f : ℕ) → more f ≤ left f) → count_by (λ f. left f == 0) xs ≤ count_by (λ f. more f == 0) xs
none_lost left more xs falls = sum_mono (λ f. one (left f == 0)) (λ f. one (more f == 0)) xs (λ f in'. no_less (left f) (more f) (falls f))

one_here : (left more : ℕ → ℕ) (f x : ℕ) → ((f : ℕ) → more f ≤ left f) → 0 < left x → more x ≡ 0 → one (f == x) + one (left f == 0) ≤ one (more f == 0)
one_here left more f x falls owes done = elim (cases_eq f x) [
  | inl same ↦ omega (
    arith,
    ap one (eq-eqb f x same),
    ap one (ne_eqb (left f) 0 (λ nought. absurd (omega (arith, owes, nought, ap left same)))),
    ap one (eq-eqb (more f) 0 (ap more same ∙ done)),
  )
  | inr other ↦ omega (arith, ap one (ne_eqb f x other), no_less (left f) (more f) (falls f))
]

-- and one more where one owed and owes nothing
one_won : (left more : ℕ → ℕ) (xs : List ℕ) (x : ℕ) → ((f : ℕ) → more f ≤ left f) → Contains xs x → 0 < left x → more x ≡ 0 →
    1 + count_by (λ f. left f == 0) xs ≤ count_by (λ f. more f == 0) xs
one_won left more xs x falls in' owes done =
    let here = λ (f : ℕ). one (f == x) in
    let old = λ (f : ℕ). one (left f == 0) in
    let each = λ (f : ℕ) (inside : Contains xs f). one_here left more f x falls owes done in
    omega (arith, sum_add here old xs, sum_mono (λ f. here f + old f) (λ f. one (more f == 0)) xs each, member_within_sum here xs x in', ap one (eq-eqb x x refl))

closing : (o : Opening) (s : State) (run : Option Run) (r : Run) → run ≡ Some r → OnRun run (IsOpenRun o.table.flows s.sent s.next) →
    1 + ended o s ≤ ended o (closed o s run) + length (filter (λ r. not (ends_flow o s r)) (option_to_list run))
closing o s None x is open' = absurd (cc)
closing o s (Some r) x is open' =
    let flows = o.table.flows in
    let next = closed o s (Some r) in
    let falls : (f : ℕ) → owed o next f ≤ owed o s f = λ f. omega arith in
    elim (cases_Bool (ends_flow o s r)) [
      | inl ends ↦
          let (f, in', all) = any_where (λ f. credit flows r f == owed o s f) r.granted ends in
          let low = All-contains (λ f. f < length flows) r.granted f open'.clear.flow in' in
          let won = one_won (owed o s) (owed o next) (range_with_len 0 (length flows)) f falls (number_in 0 (length flows) f (omega arith) (omega (arith, low)))
          (omega (arith, open'.owed f in', open'.some)) (omega (arith, eqb-true (credit flows r f) (owed o s f) all)) in
          omega (arith, won)
      | inr not' ↦
          omega (
            arith,
            none_lost (owed o s) (owed o next) (range_with_len 0 (length flows)) falls,
            ap (λ b. length (cond {A = List Run} (not b) (r ∷ []) [])) not',
          )
    ]

step : (o : Opening) (s : State) (k : Command) (reply : Reply) → SoundState o s → TellsEntry o s k reply →
    cond {A = ℕ} (is_closing reply) 1 0 + ended o s ≤ ended o (after o s k reply) + length (without_end_by o s reply)
step o s k (Closed slot) sound tells = closing o s s.run tells.0 tells.2 sound.open_run
step o s k reply sound tells = omega arith

pub few_endings : (o : Opening) (journal : List Entry) → IsLegal o journal → InRange o journal →
    closings journal ≤ flows_ended o journal + length (runs_without_end o journal)
few_endings o journal legal ok =
    along_sound o (λ j. closings j ≤ flows_ended o j + length (runs_without_end o j))
    (λ before e next sound h.
    let s = state_of o before in
    omega (
      arith,
      h,
      step o s e.command e.reply sound next.tells,
      sum_by_push (λ (e : Entry). cond {A = ℕ} (is_closing e.reply) 1 0) before e,
      ap (ended o) (state_snoc o before e),
      ap (λ (l : List Run). length l) (end_push o before e),
      length-append (runs_without_end o before) (without_end_by o s e.reply),
    )) (omega arith) journal legal ok

pub few_flows : (o : Opening) (journal : List Entry) → flows_ended o journal ≤ length o.table.flows
few_flows o journal =
    omega (arith, count_by-le-length (λ f. owed o (state_of o journal) f == 0) (range_with_len 0 (length o.table.flows)), length-range_with_len 0 (length o.table.flows))
