-- How many entries an online run has: one for each coflow that joined, one for each that left, one for each publishing,
-- and two for each run. A run ends a flow, or it ends where a coflow arrives, or where an epoch starts, and then an
-- order is published before the next run.
use Rattle.std.proofs.Common.{◌≡◌, ◌≢◌, ℕ, ◌+◌, ◌*◌, ◌-◌, ◌%◌, ◌<◌, ◌≤◌, ◌⊎◌, inl, inr, Bool, true, false, List, [], ◌++◌, get_or, length, min, refl, sym, ap}
use Rattle.std.proofs.Common.{subst, ◌∙◌, arith, cond, Contains, append-nil}
use Rattle.std.specs.Prelude.{◌==◌, count_by, nat_le, slice_index, slice_set}
use Rattle.std.specs.List.{range_with_len}
use Rattle.std.proofs.lemmas.Bool.{cases_eq, cases_lt, eq-eqb, le-leb, lt-leb, ne_eqb}
use Rattle.std.proofs.lemmas.List.{get_or-set_other, get_or-set_same, length-append}
use Rattle.std.proofs.lemmas.List.Elements.{All-contains}
use Rattle.std.proofs.lemmas.List.Sums.{count_by-le-length}
use Rattle.std.proofs.lemmas.List.FromFn.{length-range_with_len}
use Rattle.coflow_units.specs.Flows.{coflow_of}
use Rattle.coflow_units.proofs.Lists.{number_in}
use Rattle.coflow_units.proofs.Numbers.{zero_or_more}
use Rattle.coflow_units.proofs.Sums.{sum_less, sum_mono}
use Rattle.epochs.specs.declared.action.Action.TheVariants.{Publish as PublishOrder, Register as Join, Run as Serve, Skip as Pass, Withdraw as Leave}
use Rattle.epochs.specs.Choice.{IsDue}
use Rattle.epochs.specs.Course.{after, arrival_of, Course, IsArrival, IsEpochStart, is_marked, IsNextStop, SomeOwes}
use Rattle.journal.specs.declared.command.Entry.{Entry}
use Rattle.journal.specs.declared.opening.Opening.{Opening}
use Rattle.journal.specs.Closed.{LeavesSlots}
use Rattle.journal.specs.Driven.{driven, GoesOnByRun}
use Rattle.journal.specs.Ends.{flows_ended}
use Rattle.journal.specs.Fold.{state_of}
use Rattle.journal.specs.Journal.{IsLegal}
use Rattle.journal.specs.Moves.{SkipsSlots}
use Rattle.journal.specs.Runs.{granted}
use Rattle.journal.specs.State.{owed, slot_end}
use Rattle.journal.proofs.Counting.{opened_grant}
use Rattle.journal.proofs.Ending.{few_flows}
use Rattle.journal.proofs.ServingRuns.{ends_a_flow}
use Rattle.online_runs.specs.Deeds.{owed_after, time_of}
use Rattle.online_runs.proofs.Marks.{marked, one_marked}
use Rattle.online_runs.proofs.Owed.{owes_by_flow, same_owes}
use Rattle.online_runs.proofs.Shapes.{drive_of, run_entries, run_is_driven}
use Rattle.online_runs.proofs.Standing.{below, few_slots, next_some, run_goes, range_later, runs_more, some_owing, Stands}
use Rattle.online_runs.proofs.Times.{granted_present, KeepsTime, run_owed, run_time, same_owed, same_time, skip_time}

abbrev one : Bool → ℕ
one b = cond b 1 0

-- how many coflows have arrived by the time
abbrev pub arrived_by : Course → ℕ → ℕ
arrived_by s time = count_by (λ c. nat_le (arrival_of s c) time) (range_with_len 0 (length s.arrivals))

-- twice whether an order is due
pub record IsDueTimes (s : Course) (time : ℕ) (owed : List ℕ) (due : ℕ) : Type 0 where
  pub is : (due ≡ 0) ⊎ ((due ≡ 1) × IsDue s time owed)

pub record AreFew (o : Opening) (s : Course) (j : List Entry) : Type 0 where
  pub due : ℕ
  pub due_is : IsDueTimes s (time_of o j) (owed_after o j) due
  pub few : length j ≤ marked s.registered + marked s.withdrawn + 3 * s.published + 2 * flows_ended o j + 2 * arrived_by s (time_of o j) + 2 * due

due_one : (s : Course) (time : ℕ) (owed : List ℕ) (due : ℕ) → IsDueTimes s time owed due → due ≤ 1
due_one s time owed due h = elim h.is [
  | inl none ↦ omega (arith, none)
  | inr some ↦ omega (arith, some.0)
]

-- ---- counts that grow

-- who owes no more owes nothing where who owes more does
more_or_same : (b n : ℕ) → one (b + n == 0) ≤ one (b == 0)
more_or_same b n = elim (cases_eq (b + n) 0) [
  | inl nought ↦ omega (arith, ap one (eq-eqb b 0 (omega (arith, nought))), ap one (eq-eqb (b + n) 0 nought))
  | inr some ↦ omega (arith, ap one (ne_eqb (b + n) 0 some))
]

abbrev ended_in : Opening → List Entry → ℕ → ℕ
ended_in o j f = one (owed o (state_of o j) f == 0)

ended_still : (o : Opening) (j k : List Entry) (f : ℕ) → ((f : ℕ) → owed o (state_of o k) f ≤ owed o (state_of o j) f) → ended_in o j f ≤ ended_in o k f
ended_still o j k f falls =
    let more = owed o (state_of o j) f in
    let less = owed o (state_of o k) f in
    let e : more ≡ less + (more - less) = omega (arith, falls f) in
    omega (arith, ap (λ n. one (n == 0)) e, more_or_same less (more - less))

ended_more : (o : Opening) (j k : List Entry) → ((f : ℕ) → owed o (state_of o k) f ≤ owed o (state_of o j) f) → flows_ended o j ≤ flows_ended o k
ended_more o j k falls =
    sum_mono (ended_in o j) (ended_in o k) (range_with_len 0 (length o.table.flows)) (λ f in'. ended_still o j k f falls)

one_ended : (o : Opening) (j k : List Entry) (f : ℕ) → ((f : ℕ) → owed o (state_of o k) f ≤ owed o (state_of o j) f) → f < length o.table.flows → 0 < owed o (state_of o j) f →
    owed o (state_of o k) f ≡ 0 → flows_ended o j + 1 ≤ flows_ended o k
one_ended o j k f falls lt owes none =
    let before : ended_in o j f ≡ 0 = ap one (ne_eqb (owed o (state_of o j) f) 0 (λ e. absurd (omega (arith, owes, e)))) in
    let after' : ended_in o k f ≡ 1 = ap one (eq-eqb (owed o (state_of o k) f) 0 none) in
    omega (
      arith,
      sum_less (ended_in o j) (ended_in o k) (range_with_len 0 (length o.table.flows)) f (λ f. ended_still o j k f falls)
          (number_in 0 (length o.table.flows) f (omega arith) (omega (arith, lt))) (omega (arith, before, after')),
    )

came_or_same : (a t u : ℕ) → t ≤ u → one (nat_le a t) ≤ one (nat_le a u)
came_or_same a t u le = elim (cases_lt t a) [
  | inl lt ↦ omega (arith, ap one (lt-leb a t lt))
  | inr ge ↦ omega (arith, ap one (le-leb a t ge), ap one (le-leb a u (omega (arith, ge, le))))
]

arrived_more : (s : Course) (t u : ℕ) → t ≤ u → arrived_by s t ≤ arrived_by s u
arrived_more s t u le =
    sum_mono (λ c. one (nat_le (arrival_of s c) t)) (λ c. one (nat_le (arrival_of s c) u)) (range_with_len 0 (length s.arrivals)) (λ c in'. came_or_same (arrival_of s c) t u le)

one_arrived : (s : Course) (t u : ℕ) → t < u → IsArrival s.arrivals u → arrived_by s t + 1 ≤ arrived_by s u
one_arrived s t u lt (c, low, is) =
    let before : one (nat_le (arrival_of s c) t) ≡ 0 = ap one (lt-leb (arrival_of s c) t (omega (arith, lt, is))) in
    let now : one (nat_le (arrival_of s c) u) ≡ 1 = ap one (le-leb (arrival_of s c) u (omega (arith, is))) in
    omega (
      arith,
      sum_less (λ c. one (nat_le (arrival_of s c) t)) (λ c. one (nat_le (arrival_of s c) u)) (range_with_len 0 (length s.arrivals)) c
          (λ d. came_or_same (arrival_of s d) t u (omega (arith, lt))) (number_in 0 (length s.arrivals) c (omega arith) (omega (arith, low))) (omega (arith, before, now)),
    )

-- ---- actions in which no slot passes

module _ (o : Opening) (s : Course) (j k : List Entry) (h : AreFew o s j) (l : LeavesSlots o j k) (longer : length k ≡ length j + 1) where
  same_ended : flows_ended o j ≤ flows_ended o k
  same_ended = ended_more o j k (λ f. omega (arith, same_owed o j k f l))

  same_arrived : arrived_by s (time_of o k) ≡ arrived_by s (time_of o j)
  same_arrived = ap (arrived_by s) (same_time o j k l)

  here_too : (t : Course) → IsDueTimes t (time_of o j) (owed_after o j) h.due → IsDueTimes t (time_of o k) (owed_after o k) h.due
  here_too t d =
      subst (λ time. IsDueTimes t time (owed_after o k) h.due) (sym (same_time o j k l))
      (subst (λ owed. IsDueTimes t (time_of o j) owed h.due) (sym (same_owes o j k l)) d)

  joined_due : (c : ℕ) → c < length s.registered → IsDueTimes (after s (time_of o j) (Join c)) (time_of o j) (owed_after o j) h.due
  joined_due c low = record {
    is = elim h.due_is.is [
      | inl none ↦ inl none
      | inr (one', due) ↦
          let (d, present, owes) = due.owing in
          let still : is_marked (slice_set s.registered c true) d ≡ true =
          elim (cases_eq d c) [
            | inl same ↦ ap (λ i. get_or (slice_set s.registered c true) i false) same ∙ get_or-set_same s.registered c true false low
            | inr other ↦ get_or-set_other s.registered c d true false other ∙ present.joined
          ] in
          let start : IsEpochStart (after s (time_of o j) (Join c)) (time_of o j) = record { multiple = due.start.multiple; unpublished = due.start.unpublished } in
          inr (one', record { start = start; owing = (d, record { joined = still; stays = present.stays }, owes) })
    ];
  }

  pub few_joins : (c : ℕ) → c < length s.registered → is_marked s.registered c ≡ false → AreFew o (after s (time_of o j) (Join c)) k
  few_joins c low waits = record {
    due = h.due;
    due_is = here_too (after s (time_of o j) (Join c)) (joined_due c low);
    few = omega (arith, h.few, longer, one_marked s.registered c low waits, same_ended, same_arrived);
  }

  left_due : (c : ℕ) → slice_index (owed_after o j) c ≡ 0 → IsDueTimes (after s (time_of o j) (Leave c)) (time_of o j) (owed_after o j) h.due
  left_due c nought = record {
    is = elim h.due_is.is [
      | inl none ↦ inl none
      | inr (one', due) ↦
          let (d, present, owes) = due.owing in
          let other : d ≢ c = λ e. absurd (omega (arith, owes, ap (slice_index (owed_after o j)) e, nought)) in
          let still : is_marked (slice_set s.withdrawn c true) d ≡ false = get_or-set_other s.withdrawn c d true false other ∙ present.stays in
          let start : IsEpochStart (after s (time_of o j) (Leave c)) (time_of o j) = record { multiple = due.start.multiple; unpublished = due.start.unpublished } in
          inr (one', record { start = start; owing = (d, record { joined = present.joined; stays = still }, owes) })
    ];
  }

  pub few_leaves : (c : ℕ) → c < length s.withdrawn → is_marked s.withdrawn c ≡ false → slice_index (owed_after o j) c ≡ 0 → AreFew o (after s (time_of o j) (Leave c)) k
  few_leaves c low stays nought = record {
    due = h.due;
    due_is = here_too (after s (time_of o j) (Leave c)) (left_due c nought);
    few = omega (arith, h.few, longer, one_marked s.withdrawn c low stays, same_ended, same_arrived);
  }

  pub few_publishes : AreFew o (after s (time_of o j) PublishOrder) k
  few_publishes = record {
    due = 0;
    due_is = record { is = inl refl };
    few = omega (arith, h.few, longer, due_one s (time_of o j) (owed_after o j) h.due h.due_is, same_ended, same_arrived);
  }

-- ---- a run

not_due : (o : Opening) (s : Course) (j : List Entry) (due : ℕ) → IsDueTimes s (time_of o j) (owed_after o j) due → (IsDue s (time_of o j) (owed_after o j) → ⊥) → due ≡ 0
not_due o s j due h none = elim h.is [
  | inl nought ↦ nought
  | inr some ↦ absurd (none some.1)
]

module _ (o : Opening) (s : Course) (j : List Entry) (st : Stands o s j) (kt : KeepsTime o s j) (h : AreFew o s j) (most : ℕ) (some : 1 ≤ most) (r : ℕ × ℕ × ℕ)
    (legal : IsLegal o (j ++ run_entries most r)) (owes : SomeOwes s.registered s.withdrawn (owed_after o j)) (stop : IsNextStop s (time_of o j) (time_of o j + most))
    (idle : IsDue s (time_of o j) (owed_after o j) → ⊥) where
  abbrev k : List Entry
  k = j ++ run_entries most r

  abbrev goes : GoesOnByRun o j k (drive_of most r)
  goes = run_goes o s j st most some r legal

  abbrev gs : List ℕ
  gs = driven o j (drive_of most r)

  falls : (f : ℕ) → owed o (state_of o k) f ≤ owed o (state_of o j) f
  falls f = run_owed o s j st kt most some r legal f

  before_none : h.due ≡ 0
  before_none = not_due o s j h.due h.due_is idle

  longer : length k ≡ length j + 2
  longer = length-append j (run_entries most r)

  later : time_of o j ≤ time_of o k
  later = omega (arith, run_time o s j st kt most some r legal)

  in_table : (f : ℕ) → Contains gs f → f < length o.table.flows
  in_table f in' = All-contains (λ f. f < length o.table.flows) gs f goes.grants.flow in'

  ends_one : (f : ℕ) → Contains gs f → 0 < owed o (state_of o j) f → owed o (state_of o k) f ≡ 0 → AreFew o s k
  ends_one f in' more none = record {
    due = 0;
    due_is = record { is = inl refl };
    few = omega (arith, h.few, before_none, longer, one_ended o j k f falls (in_table f in') more none, arrived_more s (time_of o j) (time_of o k) later);
  }

  stops : time_of o k ≡ time_of o j + most → (f : ℕ) → Contains gs f → 0 < owed o (state_of o k) f → AreFew o s k
  stops at f in' more = elim stop.stop [
    | inl multiple ↦
        let c = coflow_of o.table.flows f in
        let present = granted_present o s j st kt most some r legal f in' in
        let start : IsEpochStart s (time_of o k) = record {
          multiple = ap (λ t. t % s.every) at ∙ multiple;
          unpublished = λ e. omega (arith, kt.last (time_of o k) e, at, some);
        } in
        let owing : SomeOwes s.registered s.withdrawn (owed_after o k) =
        (c, present, owes_by_flow o k c f (below o s j st c present.joined) (record { flow_in = in_table f in'; of_coflow = refl; owes = more })) in
        record {
          due = 1;
          due_is = record { is = inr (refl, record { start = start; owing = owing }) };
          few = omega (arith, h.few, before_none, longer, ended_more o j k falls, arrived_more s (time_of o j) (time_of o k) later);
        }
    | inr arrival ↦
        record {
          due = 0;
          due_is = record { is = inl refl };
          few = omega (
            arith,
            h.few,
            before_none,
            longer,
            ended_more o j k falls,
            one_arrived s (time_of o j) (time_of o k) (omega (arith, at, some)) (subst (IsArrival s.arrivals) (sym at) arrival),
          );
        }
  ]

  reaches : r.1 ≡ min most (slot_end - r.0) → time_of o k ≡ time_of o j + most
  reaches full =
      omega (
        arith,
        full,
        goes.first,
        goes.next,
        run_time o s j st kt most some r legal,
        few_slots o s k (runs_more o s j st most some r legal),
        few_slots o s j st,
        next_some o s j st,
      )

  pub few_runs : AreFew o (after s (time_of o j) (Serve most)) k
  few_runs = elim (ends_a_flow o j k (drive_of most r) legal (range_later o s j st most some r legal) (run_is_driven o j most r) (λ f in'. refl)) [
    | inl full ↦
        let (f, in') = subst (λ l. (f : ℕ) × Contains (granted o (state_of o l)) f) (sym (append-nil j)) (opened_grant o (state_of o j) (some_owing o s j st owes)) in
        let more : 0 < owed o (state_of o (j ++ [])) f = goes.grants.owed f in' in
        let more' : 0 < owed o (state_of o j) f = subst (λ l. 0 < owed o (state_of o l) f) (append-nil j) more in
        elim (zero_or_more (owed o (state_of o k) f)) [
          | inl none ↦ ends_one f in' more' none
          | inr still ↦ stops (reaches full) f in' still
        ]
    | inr (f, in', more, none) ↦ ends_one f in' more none
  ]

-- ---- slots are skipped

pub few_skips : (o : Opening) (s : Course) (j k : List Entry) (st : Stands o s j) → AreFew o s j → (to at : ℕ) → to ≡ at + 1 → SkipsSlots o j k to → length k ≡ length j + 1 →
    time_of o j < at → IsArrival s.arrivals at → (SomeOwes s.registered s.withdrawn (owed_after o j) → ⊥) → AreFew o (after s (time_of o j) (Pass to)) k
few_skips o s j k st h to at is goes longer later arrival none =
    let falls : (f : ℕ) → owed o (state_of o k) f ≤ owed o (state_of o j) f = λ f. omega (arith, goes.sent f) in
    let here : time_of o k ≡ at = skip_time o j k to at is goes in
    record {
      due = 0;
      due_is = record { is = inl refl };
      few = omega (
        arith,
        h.few,
        not_due o s j h.due h.due_is (λ d. none d.owing),
        longer,
        ended_more o j k falls,
        one_arrived s (time_of o j) (time_of o k) (omega (arith, here, later)) (subst (IsArrival s.arrivals) (sym here) arrival),
      );
    }

-- ---- so they are few

pub few_entries : (o : Opening) (s : Course) (j : List Entry) → Stands o s j → AreFew o s j → length j ≤ 4 * length o.table.ids + 2 * length o.table.flows + 24578
few_entries o s j st h =
    omega (
      arith,
      h.few,
      due_one s (time_of o j) (owed_after o j) h.due h.due_is,
      st.few_published,
      few_flows o j,
      count_by-le-length (λ (b : Bool). b) s.registered,
      count_by-le-length (λ (b : Bool). b) s.withdrawn,
      count_by-le-length (λ c. nat_le (arrival_of s c) (time_of o j)) (range_with_len 0 (length s.arrivals)),
      length-range_with_len 0 (length s.arrivals),
      st.registered_len,
      st.withdrawn_len,
      st.given.each_arrival,
    )
