-- Where an online run ends: all flows are served, and nobody was before its arrival.
use Rattle.std.proofs.Common.{◌≡◌, ℕ, ◌+◌, ◌*◌, ◌^◌, ◌<◌, ◌≤◌, inl, inr, true, false, List, [], ◌∷◌, ◌++◌, get_or, length, take, refl, sym, ap, subst}
use Rattle.std.proofs.Common.{◌∙◌, arith}
use Rattle.std.specs.Prelude.{All, slice_index}
use Rattle.std.proofs.lemmas.Bool.{cases_Bool, false_from_ne_true}
use Rattle.std.proofs.lemmas.List.{get_or_default, get_or-take, length-take}
use Rattle.coflow_units.specs.declared.limits.TheConstants.{MAX_UNITS}
use Rattle.coflow_units.specs.Completion.{holds_coflow}
use Rattle.coflow_units.specs.Flows.{coflow_of, units_of}
use Rattle.coflow_units.specs.Schedule.{IsClear, times}
use Rattle.coflow_units.proofs.Numbers.{zero_or_more}
use Rattle.epochs.specs.declared.action.Action.{Action}
use Rattle.epochs.specs.declared.action.Action.TheVariants.{End, Publish as PublishOrder, Register as Join, Run as Serve, Skip as Pass, TooMany, Withdraw as Leave}
use Rattle.epochs.specs.Course.{after, at_first, Course, is_marked}
use Rattle.release_bound.specs.Release.{IsReleased}
use Rattle.journal.specs.declared.command.Entry.{Entry}
use Rattle.journal.specs.declared.opening.Opening.{Opening}
use Rattle.journal.specs.Closed.{schedule_of}
use Rattle.journal.specs.Fold.{state_of}
use Rattle.journal.specs.State.{owed}
use Rattle.journal.proofs.ScheduleTimes.{slots_clear, times_is_sent}
use Rattle.journal.proofs.Sound.{legal_sound}
use Rattle.online_runs.specs.Deeds.{course_from, course_of, Deed, DoesNext, IsOnlineRun, IsOnlineSoFar, IsServedOnline, journal_of, owed_after, time_of}
use Rattle.online_runs.specs.Input.{IsOnlineInput}
use Rattle.epochs.proofs.Actions.{end_none_owes, end_none_waits}
use Rattle.online_runs.proofs.Along.{Holds, holds_so_far}
use Rattle.online_runs.proofs.Counts.{few_entries}
use Rattle.online_runs.proofs.Owed.{owes_by_flow}
use Rattle.online_runs.proofs.Standing.{few_slots}

-- ---- what no action changes

same_arrivals : (s : Course) (t : ℕ) (a : Action) → (after s t a).arrivals ≡ s.arrivals
same_arrivals s t (Join c) = refl
same_arrivals s t (Leave c) = refl
same_arrivals s t PublishOrder = refl
same_arrivals s t (Serve most) = refl
same_arrivals s t (Pass to) = refl
same_arrivals s t End = refl
same_arrivals s t (TooMany count) = refl

arrivals_from : (o : Opening) (s : Course) (j : List Entry) (ds : List Deed) → (course_from o s j ds).arrivals ≡ s.arrivals
arrivals_from o s j [] = refl
arrivals_from o s j (d ∷ ds) = arrivals_from o (after s (time_of o j) d.action) (j ++ d.entries) ds ∙ same_arrivals s (time_of o j) d.action

pub arrivals_of : (o : Opening) (arrivals : List ℕ) (every : ℕ) (ds : List Deed) → (course_of o arrivals every ds).arrivals ≡ arrivals
arrivals_of o arrivals every ds = arrivals_from o (at_first arrivals every) [] ds

-- ---- so far

module _ (o : Opening) (arrivals : List ℕ) (every : ℕ) (ds : List Deed) (i : IsOnlineInput o arrivals every) (h : IsOnlineSoFar o arrivals every ds) where
  abbrev course : Course
  course = course_of o arrivals every ds

  abbrev j : List Entry
  j = journal_of ds

  holds : Holds o course j
  holds = holds_so_far o arrivals every ds i h

  pub not_early : (c k : ℕ) → holds_coflow o.table.flows (get_or (schedule_of o j) k []) c ≡ true → slice_index arrivals c ≤ k
  not_early c k is = omega (arith, holds.times.late c k is, ap (λ l. slice_index l c) (arrivals_of o arrivals every ds))

  pub within_units : (f : ℕ) → times (schedule_of o j) f ≤ units_of o.table.flows f
  within_units f = omega (
    arith,
    times_is_sent o j f holds.stands.journal.legal holds.stands.journal.in_range,
    (legal_sound o j holds.stands.journal.legal holds.stands.journal.in_range).within f,
  )

  pub none_early : (c : ℕ) → All (λ slot. holds_coflow o.table.flows slot c ≡ false) (take (slice_index arrivals c) (schedule_of o j))
  none_early c k d lt =
      let a = slice_index arrivals c in
      let inside : k < a = omega (arith, lt, length-take a (schedule_of o j)) in
      let within : k < length (schedule_of o j) = omega (arith, lt, length-take a (schedule_of o j)) in
      let at : get_or (take a (schedule_of o j)) k d ≡ get_or (schedule_of o j) k [] =
      get_or-take a (schedule_of o j) k d inside ∙ get_or_default (schedule_of o j) k d [] within in
      ap (λ slot. holds_coflow o.table.flows slot c) at ∙
      false_from_ne_true (holds_coflow o.table.flows (get_or (schedule_of o j) k []) c) (λ is. absurd (omega (arith, not_early c k is, inside)))

  module _ (ends : DoesNext o arrivals every ds End) where
    all_joined : (c : ℕ) → c < length o.table.ids → is_marked course.registered c ≡ true
    all_joined c lt = elim (cases_Bool (is_marked course.registered c)) [
      | inl is ↦ is
      | inr not' ↦
          absurd
          (end_none_waits course (time_of o j) (owed_after o j) c ends (record { coflow_in = omega (arith, lt, holds.stands.given.each_arrival); waits = not' }))
    ]

    nothing_owed : (f : ℕ) → f < length o.table.flows → owed o (state_of o j) f ≡ 0
    nothing_owed f lt =
        let c = coflow_of o.table.flows f in
        let low : c < length o.table.ids = i.opening.table.coflow f record { coflow = 0; ingress = 0; egress = 0; units = 0 } lt in
        elim (cases_Bool (is_marked course.withdrawn c)) [
          | inl gone ↦ holds.times.served f gone
          | inr stays ↦
              elim (zero_or_more (owed o (state_of o j) f)) [
                | inl nought ↦ nought
                | inr some ↦
                    absurd
                    (end_none_owes course (time_of o j) (owed_after o j) holds.stands.given.epoch_some ends
                    (c, record { joined = all_joined c low; stays = stays }, owes_by_flow o j c f low (record { flow_in = lt; of_coflow = refl; owes = some })))
              ]
        ]

    pub all_served : IsReleased o.table.flows (slice_index arrivals) (schedule_of o j)
    all_served = record {
      valid = record {
        clear = slots_clear o j holds.stands.journal.legal holds.stands.journal.in_range;
        served = λ f lt. omega (
          arith,
          times_is_sent o j f holds.stands.journal.legal holds.stands.journal.in_range,
          (legal_sound o j holds.stands.journal.legal holds.stands.journal.in_range).within f,
          nothing_owed f lt,
        );
      };
      none_early = none_early;
    }

pub run_serves : (o : Opening) (arrivals : List ℕ) (every : ℕ) (journal : List Entry) → IsOnlineInput o arrivals every → IsOnlineRun o arrivals every journal →
    IsReleased o.table.flows (slice_index arrivals) (schedule_of o journal)
run_serves o arrivals every journal i run =
    subst (λ l. IsReleased o.table.flows (slice_index arrivals) (schedule_of o l)) (sym run.journal_is) (all_served o arrivals every run.deeds i run.so_far run.ends)

-- ---- what was served so far

pub served_early : (o : Opening) (arrivals : List ℕ) (every : ℕ) (slots : List (List ℕ)) (c k : ℕ) → IsOnlineInput o arrivals every → IsServedOnline o arrivals every slots →
    holds_coflow o.table.flows (get_or slots k []) c ≡ true → slice_index arrivals c ≤ k
served_early o arrivals every slots c k i h is =
    not_early o arrivals every h.deeds i h.so_far c k (ap (λ l. holds_coflow o.table.flows (get_or l k []) c) (sym h.slots_are) ∙ is)

pub served_clear : (o : Opening) (arrivals : List ℕ) (every : ℕ) (slots : List (List ℕ)) → IsOnlineInput o arrivals every → IsServedOnline o arrivals every slots →
    All (IsClear o.table.flows) slots
served_clear o arrivals every slots i h =
    let st = (holds_so_far o arrivals every h.deeds i h.so_far).stands in
    subst (All (IsClear o.table.flows)) (sym h.slots_are) (slots_clear o (journal_of h.deeds) st.journal.legal st.journal.in_range)

pub served_times : (o : Opening) (arrivals : List ℕ) (every : ℕ) (slots : List (List ℕ)) (f : ℕ) → IsOnlineInput o arrivals every → IsServedOnline o arrivals every slots →
    times slots f ≤ units_of o.table.flows f
served_times o arrivals every slots f i h = omega (arith, within_units o arrivals every h.deeds i h.so_far f, ap (λ l. times l f) h.slots_are)

-- ---- it is short

pub short_entries : (o : Opening) (arrivals : List ℕ) (every : ℕ) (ds : List Deed) → IsOnlineInput o arrivals every → IsOnlineSoFar o arrivals every ds →
    length (journal_of ds) ≤ 4 * length o.table.ids + 2 * length o.table.flows + 24578
short_entries o arrivals every ds i h =
    let x = holds_so_far o arrivals every ds i h in
    few_entries o (course_of o arrivals every ds) (journal_of ds) x.stands x.few

pub short_slots : (o : Opening) (arrivals : List ℕ) (every : ℕ) (ds : List Deed) → IsOnlineInput o arrivals every → IsOnlineSoFar o arrivals every ds →
    time_of o (journal_of ds) ≤ 2 ^ 32 + MAX_UNITS
short_slots o arrivals every ds i h =
    let x = holds_so_far o arrivals every ds i h in
    omega (arith, few_slots o (course_of o arrivals every ds) (journal_of ds) x.stands)
