-- What holds at the beginning and is kept by each deed holds along an online run.
use Rattle.std.proofs.Common.{◌≡◌, ℕ, ◌+◌, ◌^◌, ◌<◌, ◌≤◌, inl, inr, true≢false, List, [], ◌∷◌, ◌++◌, length, map, refl, sym, ap, subst, ◌∙◌, arith, append-nil, append_assoc}
use Rattle.std.specs.Prelude.{slice_index}
use Rattle.std.proofs.lemmas.Bool.{cases_lt}
use Rattle.std.proofs.lemmas.List.{get_or_past, length_push}
use Rattle.coflow_units.specs.declared.fabric.Flow.{Flow}
use Rattle.coflow_units.specs.Flows.{coflow_of, units_of}
use Rattle.epochs.specs.declared.action.Action.{Action}
use Rattle.epochs.specs.declared.action.Action.TheVariants.{End, Publish as PublishOrder, Register as Join, Run as Serve, Skip as Pass, TooMany, Withdraw as Leave}
use Rattle.epochs.specs.Choice.{IsFirstAction}
use Rattle.epochs.specs.Course.{after, at_first, Course, IsArrival}
use Rattle.journal.specs.declared.command.Command.TheVariants.{Publish, Register, Skip, Withdraw}
use Rattle.journal.specs.declared.command.Entry.{Entry}
use Rattle.journal.specs.declared.command.Reply.TheVariants.{Joined, Left, Skipped, Version}
use Rattle.journal.specs.declared.opening.Opening.{Opening}
use Rattle.journal.specs.Fold.{state_of}
use Rattle.journal.specs.Journal.{asked, entry, IsLegal}
use Rattle.journal.specs.Line.{version}
use Rattle.journal.specs.State.{owed}
use Rattle.journal.proofs.Leaving.{leaves_push}
use Rattle.journal.proofs.Legal.{legal_front}
use Rattle.online_runs.specs.Deeds.{AreDoneFrom, commands_of, course_from, course_of, Deed, IsDone, IsOnlineSoFar, journal_of, owed_after, time_of}
use Rattle.online_runs.specs.Input.{IsOnlineInput}
use Rattle.online_runs.specs.Value.{epoch_at, epochs_of}
use Rattle.epochs.proofs.Actions.{none_marked, run_not_due, skip_none_owes}
use Rattle.online_runs.proofs.Counts.{AreFew, few_joins, few_leaves, few_publishes, few_runs, few_skips}
use Rattle.online_runs.proofs.Rising.{epochs_more, no_epoch, one_epoch, Rises, rises_first, rises_on, rises_same}
use Rattle.online_runs.proofs.Shapes.{none_asked, run_entries}
use Rattle.online_runs.proofs.Standing.{below, joins_by, joins_more, leaves_by, leaves_more, publishes_by, publishes_more, runs_by, runs_more, skip_goes, skips_by}
use Rattle.online_runs.proofs.Standing.{skips_more, Stands, stands_first}
use Rattle.online_runs.proofs.Times.{KeepsTime, owes_none, time_joins, time_leaves, time_publishes, time_runs, time_skips}

-- what holds between the actions of an online run
pub record Holds (o : Opening) (s : Course) (j : List Entry) : Type 0 where
  pub stands : Stands o s j
  pub times : KeepsTime o s j
  pub few : AreFew o s j
  pub rises : Rises s (epochs_of o j)

pub holds_first : (o : Opening) (arrivals : List ℕ) (every : ℕ) → IsOnlineInput o arrivals every → Holds o (at_first arrivals every) []
holds_first o arrivals every i = record {
  stands = stands_first o arrivals every i;
  times = record {
    arrived = λ c is. absurd (true≢false (sym is ∙ none_marked (length arrivals) c));
    served = λ f is. absurd (true≢false (sym is ∙ none_marked (length arrivals) (coflow_of o.table.flows f)));
    late = λ c k is. absurd (true≢false (sym is));
    last = λ t is. absurd (cc);
    gone = λ c is. absurd (true≢false (sym is ∙ none_marked (length arrivals) c));
  };
  few = record { due = 0; due_is = record { is = inl refl }; few = omega arith };
  rises = rises_first (at_first arrivals every);
}

-- a run tells no version
pub no_run_epochs : (o : Opening) (j : List Entry) (most : ℕ) (r : ℕ × ℕ × ℕ) → epochs_of o (j ++ run_entries most r) ≡ epochs_of o j
no_run_epochs o j most r = epochs_more o j (run_entries most r) ∙ append-nil (epochs_of o j)

pub arrival_fits : (o : Opening) (s : Course) (j : List Entry) → Stands o s j → (at : ℕ) → IsArrival s.arrivals at → at ≤ 2 ^ 32
arrival_fits o s j st at (c, lt, is) = omega (arith, is, st.given.arrivals_fit c 0 lt)

module _ (o : Opening) (s : Course) (j : List Entry) (h : Holds o s j) where
  abbrev st : Stands o s j
  st = h.stands

  abbrev time : ℕ
  time = time_of o j

  abbrev all_owed : List ℕ
  all_owed = owed_after o j

  nobody : (c : ℕ) → c < length o.table.ids → slice_index all_owed c ≡ 0 → (f : ℕ) → coflow_of o.table.flows f ≡ c → owed o (state_of o j) f ≡ 0
  nobody c low none f is = elim (cases_lt f (length o.table.flows)) [
    | inl lt ↦ owes_none o s j c low none f lt is
    | inr past ↦
        let nothing : units_of o.table.flows f ≡ 0 = ap (λ (x : Flow). x.units) (get_or_past o.table.flows f record { coflow = 0; ingress = 0; egress = 0; units = 0 } past) in
        omega (arith, nothing)
  ]

  pub holds_on : (a : Action) (es : List Entry) → IsFirstAction s time all_owed a → map asked es ≡ map (λ k. (0, k)) (commands_of a) → IsLegal o (j ++ es) →
      Holds o (after s time a) (j ++ es)
  holds_on (Join c) es first asks legal =
      let x = first.applies in
      let is = joins_by o s j st c x.waits.waits x.waits.coflow_in es asks legal in
      let e = entry 0 (Register c) Joined in
      let leaves = leaves_push o j e refl in
      subst (λ l. Holds o (after s time (Join c)) (j ++ l)) (sym is)
      (record {
        stands = joins_more o s j st c x.waits.waits x.waits.coflow_in es asks legal;
        times = time_joins o s j (j ++ e ∷ []) h.times leaves.slots c x.arrived;
        few = few_joins o s j (j ++ e ∷ []) h.few leaves.slots (length_push j e) c (omega (arith, x.waits.coflow_in, st.registered_len)) x.waits.waits;
        rises = subst (Rises (after s time (Join c))) (sym (no_epoch o j e refl)) (rises_same s (after s time (Join c)) (epochs_of o j) refl h.rises);
      })
  holds_on (Leave c) es first asks legal =
      let x = first.applies in
      let present = x.served.is_present in
      let is = leaves_by o s j st c present es asks legal in
      let e = entry 0 (Withdraw c) Left in
      let leaves = leaves_push o j e refl in
      let low = below o s j st c present.joined in
      subst (λ l. Holds o (after s time (Leave c)) (j ++ l)) (sym is)
      (record {
        stands = leaves_more o s j st c present es asks legal;
        times = time_leaves o s j (j ++ e ∷ []) h.times leaves.slots c present.joined (nobody c low x.served.served);
        few = few_leaves o s j (j ++ e ∷ []) h.few leaves.slots (length_push j e) c (omega (arith, low, st.withdrawn_len, st.given.each_arrival)) present.stays x.served.served;
        rises = subst (Rises (after s time (Leave c))) (sym (no_epoch o j e refl)) (rises_same s (after s time (Leave c)) (epochs_of o j) refl h.rises);
      })
  holds_on PublishOrder es first asks legal =
      let x = first.applies in
      let is = publishes_by o s j st x.1 es asks legal in
      let e = entry 0 Publish (Version (version (state_of o j) + 1)) in
      let leaves = leaves_push o j e refl in
      subst (λ l. Holds o (after s time PublishOrder) (j ++ l)) (sym is)
      (record {
        stands = publishes_more o s j st x.1 es asks legal;
        times = time_publishes o s j (j ++ e ∷ []) h.times leaves.slots;
        few = few_publishes o s j (j ++ e ∷ []) h.few leaves.slots (length_push j e);
        rises = subst (Rises (after s time PublishOrder)) (sym (one_epoch o j e refl))
            (rises_on o s j (epochs_of o j) (epoch_at o j) h.times x.0.due.start.unpublished refl h.rises);
      })
  holds_on (Serve most) es first asks legal =
      let x = first.applies in
      let some : 1 ≤ most = omega (arith, x.stop.later) in
      let (r, is) = runs_by o s j st most some x.owing es asks legal in
      let fine = subst (λ l. IsLegal o (j ++ l)) is legal in
      subst (λ l. Holds o (after s time (Serve most)) (j ++ l)) (sym is)
      (record {
        stands = runs_more o s j st most some r fine;
        times = time_runs o s j st h.times most some r fine;
        few = few_runs o s j st h.times h.few most some r fine x.owing x.stop (run_not_due s time all_owed most st.few_published first);
        rises = subst (Rises s) (sym (no_run_epochs o j most r)) h.rises;
      })
  holds_on (Pass to) es first asks legal =
      let x = first.applies in
      let (at, next, to_is) = x.arrival in
      let none = skip_none_owes s time all_owed to st.given.epoch_some first in
      let fits = arrival_fits o s j st at next.arrival in
      let is = skips_by o s j st to at to_is next.later fits none es asks legal in
      let e = entry 0 (Skip to) (Skipped to) in
      let goes = skip_goes o s j st to at to_is next.later fits none es asks legal in
      subst (λ l. Holds o (after s time (Pass to)) (j ++ l)) (sym is)
      (record {
        stands = skips_more o s j st to at to_is next.later fits none es asks legal;
        times = time_skips o s j (j ++ e ∷ []) st h.times to goes;
        few = few_skips o s j (j ++ e ∷ []) st h.few to at to_is goes (length_push j e) next.later next.arrival none;
        rises = subst (Rises s) (sym (no_epoch o j e refl)) h.rises;
      })
  holds_on End es first asks legal = subst (λ l. Holds o s (j ++ l)) (sym (none_asked es asks)) (subst (Holds o s) (sym (append-nil j)) h)
  holds_on (TooMany count) es first asks legal = subst (λ l. Holds o s (j ++ l)) (sym (none_asked es asks)) (subst (Holds o s) (sym (append-nil j)) h)

-- ---- along the deeds

holds_from : (o : Opening) (s : Course) (j : List Entry) (ds : List Deed) → Holds o s j → AreDoneFrom o s j ds → IsLegal o (j ++ journal_of ds) →
    Holds o (course_from o s j ds) (j ++ journal_of ds)
holds_from o s j [] h done legal = subst (Holds o s) (sym (append-nil j)) h
holds_from o s j (d ∷ ds) h done legal =
    let again : (j ++ d.entries) ++ journal_of ds ≡ j ++ (d.entries ++ journal_of ds) = append_assoc j d.entries (journal_of ds) in
    let legal' = subst (IsLegal o) (sym again) legal in
    let front = legal_front o [] (j ++ d.entries) (journal_of ds) legal' in
    subst (Holds o (course_from o s j (d ∷ ds))) again
    (holds_from o (after s (time_of o j) d.action) (j ++ d.entries) ds (holds_on o s j h d.action d.entries done.0.first done.0.asks front) done.1 legal')

pub holds_so_far : (o : Opening) (arrivals : List ℕ) (every : ℕ) (ds : List Deed) → IsOnlineInput o arrivals every → IsOnlineSoFar o arrivals every ds →
    Holds o (course_of o arrivals every ds) (journal_of ds)
holds_so_far o arrivals every ds i h = holds_from o (at_first arrivals every) [] ds (holds_first o arrivals every i) h.done h.legal

-- ---- one deed more

course_snoc : (o : Opening) (s : Course) (j : List Entry) (ds : List Deed) (d : Deed) →
    course_from o s j (ds ++ d ∷ []) ≡ after (course_from o s j ds) (time_of o (j ++ journal_of ds)) d.action
course_snoc o s j [] d = ap (λ l. after s (time_of o l) d.action) (sym (append-nil j))
course_snoc o s j (x ∷ xs) d =
    course_snoc o (after s (time_of o j) x.action) (j ++ x.entries) xs d ∙
    ap (λ l. after (course_from o s j (x ∷ xs)) (time_of o l) d.action) (append_assoc j x.entries (journal_of xs))

done_snoc : (o : Opening) (s : Course) (j : List Entry) (ds : List Deed) (d : Deed) → AreDoneFrom o s j ds → IsDone o (course_from o s j ds) (j ++ journal_of ds) d →
    AreDoneFrom o s j (ds ++ d ∷ [])
done_snoc o s j [] d all last = (subst (λ l. IsDone o s l d) (append-nil j) last, tt)
done_snoc o s j (x ∷ xs) d all last = (
  all.0,
  done_snoc o (after s (time_of o j) x.action) (j ++ x.entries) xs d all.1
      (subst (λ l. IsDone o (course_from o s j (x ∷ xs)) l d) (sym (append_assoc j x.entries (journal_of xs))) last),
)

pub journal_snoc : (ds : List Deed) (d : Deed) → journal_of (ds ++ d ∷ []) ≡ journal_of ds ++ d.entries
journal_snoc [] d = append-nil d.entries
journal_snoc (x ∷ xs) d = ap (λ l. x.entries ++ l) (journal_snoc xs d) ∙ sym (append_assoc x.entries (journal_of xs) d.entries)

pub course_more : (o : Opening) (arrivals : List ℕ) (every : ℕ) (ds : List Deed) (d : Deed) →
    course_of o arrivals every (ds ++ d ∷ []) ≡ after (course_of o arrivals every ds) (time_of o (journal_of ds)) d.action
course_more o arrivals every ds d = course_snoc o (at_first arrivals every) [] ds d

pub so_far_more : (o : Opening) (arrivals : List ℕ) (every : ℕ) (ds : List Deed) (d : Deed) → IsOnlineSoFar o arrivals every ds →
    IsDone o (course_of o arrivals every ds) (journal_of ds) d → IsLegal o (journal_of ds ++ d.entries) → IsOnlineSoFar o arrivals every (ds ++ d ∷ [])
so_far_more o arrivals every ds d h last legal = record {
  done = done_snoc o (at_first arrivals every) [] ds d h.done last;
  legal = subst (IsLegal o) (sym (journal_snoc ds d)) legal;
}
