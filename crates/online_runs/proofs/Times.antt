-- Who was served when: nobody before its arrival, and who left owes nothing.
use Rattle.std.proofs.Common.{◌≡◌, ℕ, ◌+◌, ◌-◌, ◌<◌, ◌≤◌, inl, inr, true, true≢false, List, [], ◌++◌, get_or, length, refl, sym, ap, subst, ◌∙◌}
use Rattle.std.proofs.Common.{arith, Contains, Option, Some, replicate, append-nil}
use Rattle.std.specs.Prelude.{◌==◌, slice_index, unwrap_or}
use Rattle.std.proofs.lemmas.Bool.{cases_lt, eqb-true}
use Rattle.std.proofs.lemmas.List.{get_or-append-add, get_or_append_left, get_or_past, get_or-replicate, length-replicate}
use Rattle.std.proofs.lemmas.List.Elements.{All-contains}
use Rattle.coflow_units.specs.declared.fabric.Flow.{Flow}
use Rattle.coflow_units.specs.Completion.{holds_coflow}
use Rattle.coflow_units.specs.Flows.{coflow_of, units_of}
use Rattle.coflow_units.proofs.Lists.{any_where}
use Rattle.coflow_units.proofs.Numbers.{zero_or_more}
use Rattle.coflow_units.proofs.Sums.{any_in}
use Rattle.epochs.specs.declared.action.Action.TheVariants.{Publish as PublishOrder, Register as Join, Run as Serve, Skip as Pass, Withdraw as Leave}
use Rattle.epochs.specs.Course.{after, arrival_of, Course, is_marked, IsPresent}
use Rattle.journal.specs.declared.command.Entry.{Entry}
use Rattle.journal.specs.declared.opening.Opening.{Opening}
use Rattle.journal.specs.Closed.{LeavesSlots, schedule_of}
use Rattle.journal.specs.Driven.{driven, GoesOnByRun}
use Rattle.journal.specs.Fold.{state_of}
use Rattle.journal.specs.Journal.{IsLegal, line_of}
use Rattle.journal.specs.Moves.{SkipsSlots}
use Rattle.journal.specs.State.{owed}
use Rattle.journal.proofs.Driving.{driven_even}
use Rattle.journal.proofs.Present.{line_present}
use Rattle.journal.proofs.Schedules.{schedule_length}
use Rattle.online_runs.specs.Deeds.{owed_after, time_of}
use Rattle.epochs.proofs.Actions.{marked_again, stays_marked}
use Rattle.online_runs.proofs.Owed.{owes_by_flow}
use Rattle.online_runs.proofs.Shapes.{drive_of, run_entries}
use Rattle.online_runs.proofs.Standing.{next_some, parts_here, run_goes, Stands}

pub record KeepsTime (o : Opening) (s : Course) (j : List Entry) : Type 0 where
  pub arrived : (c : ℕ) → is_marked s.registered c ≡ true → arrival_of s c ≤ time_of o j
  pub served : (f : ℕ) → is_marked s.withdrawn (coflow_of o.table.flows f) ≡ true → owed o (state_of o j) f ≡ 0
  pub late : (c k : ℕ) → holds_coflow o.table.flows (get_or (schedule_of o j) k []) c ≡ true → arrival_of s c ≤ k
  pub last : (t : ℕ) → s.last ≡ Some t → t ≤ time_of o j
  pub gone : (c : ℕ) → is_marked s.withdrawn c ≡ true → is_marked s.registered c ≡ true

-- ---- actions in which no slot passes

pub same_time : (o : Opening) (j k : List Entry) → LeavesSlots o j k → time_of o k ≡ time_of o j
same_time o j k l = ap (λ n. n - 1) l.next

pub same_owed : (o : Opening) (j k : List Entry) (f : ℕ) → LeavesSlots o j k → owed o (state_of o k) f ≡ owed o (state_of o j) f
same_owed o j k f l = ap (λ n. units_of o.table.flows f - n) (l.sent f)

module _ (o : Opening) (s : Course) (j k : List Entry) (h : KeepsTime o s j) (l : LeavesSlots o j k) where
  late_still : (c i : ℕ) → holds_coflow o.table.flows (get_or (schedule_of o k) i []) c ≡ true → arrival_of s c ≤ i
  late_still c i there = h.late c i (ap (λ x. holds_coflow o.table.flows (get_or x i []) c) (sym l.schedule) ∙ there)

  pub time_joins : (c : ℕ) → arrival_of s c ≤ time_of o j → KeepsTime o (after s (time_of o j) (Join c)) k
  time_joins c came = record {
    arrived = λ d is.
        elim (marked_again s.registered c d is) [
          | inl same ↦ omega (arith, came, same_time o j k l, ap (arrival_of s) same)
          | inr there ↦ omega (arith, h.arrived d there, same_time o j k l)
        ];
    served = λ f is. same_owed o j k f l ∙ h.served f is;
    late = late_still;
    last = λ t is. omega (arith, h.last t is, same_time o j k l);
    gone = λ d is. stays_marked s.registered c d (h.gone d is);
  }

  pub time_leaves : (c : ℕ) → is_marked s.registered c ≡ true → ((f : ℕ) → coflow_of o.table.flows f ≡ c → owed o (state_of o j) f ≡ 0) →
      KeepsTime o (after s (time_of o j) (Leave c)) k
  time_leaves c here none = record {
    arrived = λ d is. omega (arith, h.arrived d is, same_time o j k l);
    served = λ f is.
        elim (marked_again s.withdrawn c (coflow_of o.table.flows f) is) [
          | inl same ↦ same_owed o j k f l ∙ none f same
          | inr there ↦ same_owed o j k f l ∙ h.served f there
        ];
    late = late_still;
    last = λ t is. omega (arith, h.last t is, same_time o j k l);
    gone = λ d is.
        elim (marked_again s.withdrawn c d is) [
          | inl same ↦ ap (is_marked s.registered) same ∙ here
          | inr there ↦ h.gone d there
        ];
  }

  some_is : (a b : ℕ) → ◌≡◌ {A = Option ℕ} (Some a) (Some b) → a ≡ b
  some_is a b e = ap (λ (x : Option ℕ). unwrap_or x 0) e

  pub time_publishes : KeepsTime o (after s (time_of o j) PublishOrder) k
  time_publishes = record {
    arrived = λ d is. omega (arith, h.arrived d is, same_time o j k l);
    served = λ f is. same_owed o j k f l ∙ h.served f is;
    late = late_still;
    last = λ t is. omega (arith, some_is (time_of o j) t is, same_time o j k l);
    gone = h.gone;
  }

-- what a coflow that owes nothing leaves to its flows
pub owes_none : (o : Opening) (s : Course) (j : List Entry) (c : ℕ) → c < length o.table.ids → slice_index (owed_after o j) c ≡ 0 → (f : ℕ) → f < length o.table.flows →
    coflow_of o.table.flows f ≡ c → owed o (state_of o j) f ≡ 0
owes_none o s j c lt none f low is = elim (zero_or_more (owed o (state_of o j) f)) [
  | inl nought ↦ nought
  | inr some ↦ absurd (omega (arith, none, owes_by_flow o j c f lt (record { flow_in = low; of_coflow = is; owes = some })))
]

-- ---- a run

in_slot : (flows : List Flow) (slot : List ℕ) (c : ℕ) → holds_coflow flows slot c ≡ true → (f : ℕ) × Contains slot f × (coflow_of flows f ≡ c)
in_slot flows slot c is = let (f, in', same) = any_where (λ f. coflow_of flows f == c) slot is in (f, in', eqb-true (coflow_of flows f) c same)

pub time_is : (o : Opening) (s : Course) (j : List Entry) → Stands o s j → time_of o j ≡ length (schedule_of o j)
time_is o s j st = omega (arith, schedule_length o j st.journal.legal st.journal.in_range)

in_even : (n : ℕ) (gs : List ℕ) (i : ℕ) (flows : List Flow) (c : ℕ) → holds_coflow flows (get_or (replicate n gs) i []) c ≡ true → holds_coflow flows gs c ≡ true
in_even n gs i flows c is = elim (cases_lt i n) [
  | inl lt ↦ ap (λ x. holds_coflow flows x c) (sym (get_or-replicate n i gs [] lt)) ∙ is
  | inr past ↦ absurd (true≢false (sym is ∙ ap (λ x. holds_coflow flows x c) (get_or_past (replicate n gs) i [] (omega (arith, past, length-replicate n gs)))))
]

module _ (o : Opening) (s : Course) (j : List Entry) (st : Stands o s j) (h : KeepsTime o s j) (most : ℕ) (some : 1 ≤ most) (r : ℕ × ℕ × ℕ)
    (legal : IsLegal o (j ++ run_entries most r)) where
  abbrev later : List Entry
  later = j ++ run_entries most r

  goes : GoesOnByRun o j later (drive_of most r)
  goes = run_goes o s j st most some r legal

  abbrev gs : List ℕ
  gs = driven o j (drive_of most r)

  pub run_time : time_of o later ≡ time_of o j + r.1
  run_time = omega (arith, goes.next, next_some o s j st)

  pub run_schedule : schedule_of o later ≡ schedule_of o j ++ replicate r.1 gs
  run_schedule = goes.schedule ∙ ap (λ l. schedule_of o j ++ l) (driven_even o j (drive_of most r) (λ f in'. refl))

  pub run_owed : (f : ℕ) → owed o (state_of o later) f ≤ owed o (state_of o j) f
  run_owed f = omega (arith, goes.sent f)

  pub granted_present : (f : ℕ) → Contains gs f → IsPresent s.registered s.withdrawn (coflow_of o.table.flows f)
  granted_present f in' =
      let c = coflow_of o.table.flows f in
      let same : j ++ [] ≡ j = append-nil j in
      let named : Contains (line_of o (j ++ [])) c = All-contains (λ f. Contains (line_of o (j ++ [])) (coflow_of o.table.flows f)) gs f goes.grants.in_line in' in
      parts_here o s j st c (sym (line_present o j st.given.opening c) ∙ any_in (line_of o j) c (subst (λ l. Contains (line_of o l) c) same named))

  granted_came : (c : ℕ) → holds_coflow o.table.flows gs c ≡ true → arrival_of s c ≤ time_of o j
  granted_came c is =
      let (f, in', same) = in_slot o.table.flows gs c is in
      omega (arith, ap (arrival_of s) same, h.arrived (coflow_of o.table.flows f) (granted_present f in').joined)

  run_late : (c k : ℕ) → holds_coflow o.table.flows (get_or (schedule_of o later) k []) c ≡ true → arrival_of s c ≤ k
  run_late c k is = elim (cases_lt k (length (schedule_of o j))) [
    | inl lt ↦
        h.late c k
        (ap (λ x. holds_coflow o.table.flows x c) (sym (ap (λ l. get_or l k []) run_schedule ∙ get_or_append_left (schedule_of o j) (replicate r.1 gs) [] k lt)) ∙ is)
    | inr past ↦
        let i = k - length (schedule_of o j) in
        let e : k ≡ length (schedule_of o j) + i = omega (arith, past) in
        let at : get_or (schedule_of o later) k [] ≡ get_or (replicate r.1 gs) i [] =
        ap (λ l. get_or l k []) run_schedule ∙ ap (λ n. get_or (schedule_of o j ++ replicate r.1 gs) n []) e ∙ get_or-append-add (schedule_of o j) (replicate r.1 gs) i [] in
        let came = granted_came c (in_even r.1 gs i o.table.flows c (ap (λ x. holds_coflow o.table.flows x c) (sym at) ∙ is)) in
        omega (arith, came, time_is o s j st, past)
  ]

  pub time_runs : KeepsTime o (after s (time_of o j) (Serve most)) later
  time_runs = record {
    arrived = λ c is. omega (arith, h.arrived c is, run_time);
    served = λ f is. omega (arith, run_owed f, h.served f is);
    late = run_late;
    last = λ t is. omega (arith, h.last t is, run_time);
    gone = h.gone;
  }

-- ---- slots are skipped

pub skip_time : (o : Opening) (j k : List Entry) (to at : ℕ) → to ≡ at + 1 → SkipsSlots o j k to → time_of o k ≡ at
skip_time o j k to at is goes = omega (arith, goes.next, is)

module _ (o : Opening) (s : Course) (j k : List Entry) (st : Stands o s j) (h : KeepsTime o s j) (to : ℕ) (goes : SkipsSlots o j k to) where
  abbrev more : ℕ
  more = to - (state_of o j).next

  skip_later : time_of o j ≤ time_of o k
  skip_later = omega (arith, goes.next, goes.later)

  skip_late : (c i : ℕ) → holds_coflow o.table.flows (get_or (schedule_of o k) i []) c ≡ true → arrival_of s c ≤ i
  skip_late c i is = elim (cases_lt i (length (schedule_of o j))) [
    | inl lt ↦
        h.late c i
        (ap (λ x. holds_coflow o.table.flows x c) (sym (ap (λ l. get_or l i []) goes.schedule ∙ get_or_append_left (schedule_of o j) (replicate more []) [] i lt)) ∙ is)
    | inr past ↦
        let n = i - length (schedule_of o j) in
        let e : i ≡ length (schedule_of o j) + n = omega (arith, past) in
        let at' : get_or (schedule_of o k) i [] ≡ get_or (replicate more []) n [] =
        ap (λ l. get_or l i []) goes.schedule ∙ ap (λ m. get_or (schedule_of o j ++ replicate more []) m []) e ∙ get_or-append-add (schedule_of o j) (replicate more []) n [] in
        let none : holds_coflow o.table.flows [] c ≡ true = in_even more [] n o.table.flows c (ap (λ x. holds_coflow o.table.flows x c) (sym at') ∙ is) in
        absurd (true≢false (sym none))
  ]

  pub time_skips : KeepsTime o (after s (time_of o j) (Pass to)) k
  time_skips = record {
    arrived = λ c is. omega (arith, h.arrived c is, skip_later);
    served = λ f is. ap (λ n. units_of o.table.flows f - n) (goes.sent f) ∙ h.served f is;
    late = skip_late;
    last = λ t is. omega (arith, h.last t is, skip_later);
    gone = h.gone;
  }
