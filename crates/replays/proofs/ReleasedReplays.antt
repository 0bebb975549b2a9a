-- The schedule of a replay serves all units, and serves nobody before its arrival.
use Rattle.std.proofs.Common.{◌≡◌, ℕ, ◌+◌, ◌*◌, ◌-◌, ◌<◌, ◌≤◌, ◌⊎◌, inl, inr, Bool, true, false, true≢false, cond, List, [], ◌∷◌, ◌++◌, get_or, length, replicate, set, take}
use Rattle.std.proofs.Common.{refl, sym, ap, subst}
use Rattle.std.proofs.Common.{◌∙◌, arith, Contains}
use Rattle.std.proofs.Common.{length-append, length-set}
use Rattle.std.specs.Prelude.{◌==◌, if◌then◌else◌, not, All, slice_index}
use Rattle.std.specs.List.{range_with_len}
use Rattle.std.proofs.lemmas.Bool.{and_parts, cases_Bool, cases_eq, cases_lt, eq-eqb, eqb-true, false_from_ne_true}
use Rattle.std.proofs.lemmas.List.{get_or_append_left, get_or-append_right, get_or_default, get_or_past, get_or-replicate, get_or-set_other, get_or-set_same, get_or-take}
use Rattle.std.proofs.lemmas.List.{length-replicate, length-take}
use Rattle.std.proofs.lemmas.List.Elements.{All-append, All-contains, All-nil, All-replicate, Contains-push_cases}
use Rattle.std.proofs.lemmas.List.Folds.{sum_by-replicate}
use Rattle.coflow_units.specs.Completion.{holds_coflow}
use Rattle.coflow_units.specs.Flows.{coflow_of, units_of}
use Rattle.coflow_units.specs.Schedule.{holds, IsClear, times}
use Rattle.coflow_units.specs.Served.{left_after}
use Rattle.coflow_units.proofs.Lists.{any_where, filter_in, number_in}
use Rattle.coflow_units.proofs.Numbers.{zero_or_more}
use Rattle.coflow_units.proofs.ServedExists.{times_append}
use Rattle.coflow_units.proofs.ServedLaws.{grants_clear}
use Rattle.coflow_units.proofs.Sums.{any_has, member_within_sum, nothing_in}
use Rattle.epochs.specs.declared.action.Action.{Action}
use Rattle.epochs.specs.declared.action.Action.TheVariants.{End, Publish, Register, Run, Skip, TooMany, Withdraw}
use Rattle.epochs.specs.Choice.{Registers, Withdraws}
use Rattle.epochs.specs.Course.{is_marked}
use Rattle.epochs.proofs.Actions.{end_none_owes, end_none_waits, marked_below, none_marked}
use Rattle.rankers.specs.FactsTold.{FactsTold}
use Rattle.rankers.specs.Meaning.{answer_of, Meaning}
use Rattle.release_bound.specs.Release.{IsReleased}
use Rattle.replays.specs.Moments.{AreStepsFrom, asked_at, DoesNext, first_moment, Input, is_here, IsNext, joined_at, left_the_line, Moment, moment_after}
use Rattle.replays.specs.Moments.{owed_at, owes, published_at, served_at, Step, time_at}
use Rattle.replays.specs.Replayed.{IsInput, IsReplay}
use Rattle.replays.proofs.Remaining.{owed_is}

-- What holds at each moment. Those in the line joined, so they have arrived. The slots are clear; nobody is served before
-- its arrival, and no flow for more units than it has. Who left is served.
pub record Stands (x : Input) (m : Moment) : Type 0 where
  pub arrivals_are : m.course.arrivals ≡ x.arrivals
  pub every_is : m.course.every ≡ x.every
  pub each_mark : length m.course.registered ≡ length x.arrivals
  pub arrived : (c : ℕ) → is_marked m.course.registered c ≡ true → slice_index x.arrivals c ≤ time_at m
  pub in_line : (c : ℕ) → Contains m.line c → is_marked m.course.registered c ≡ true
  pub clear : All (IsClear x.table.flows) m.slots
  pub late : (c k : ℕ) → holds_coflow x.table.flows (get_or m.slots k []) c ≡ true → slice_index x.arrivals c ≤ k
  pub within : (f : ℕ) → times m.slots f ≤ units_of x.table.flows f
  pub served : (f : ℕ) → f < length x.table.flows → is_marked m.course.withdrawn (coflow_of x.table.flows f) ≡ true →
      times m.slots f ≡ units_of x.table.flows f

stands_first : (x : Input) (ranker : Meaning) → Stands x (first_moment x ranker)
stands_first x ranker = record {
  arrivals_are = refl;
  every_is = refl;
  each_mark = length-replicate (length x.arrivals) false;
  arrived = λ c is. absurd (true≢false (sym is ∙ none_marked (length x.arrivals) c));
  in_line = λ c has. absurd (nothing_in c has);
  clear = All-nil (IsClear x.table.flows);
  late = λ c k is. absurd (true≢false (sym is ∙ ap (λ slot. holds_coflow x.table.flows slot c) (get_or_past [] k [] (omega arith))));
  within = λ f. omega arith;
  served = λ f lt is. absurd (true≢false (sym is ∙ none_marked (length x.arrivals) (coflow_of x.table.flows f)));
}

-- ---- slots more

module _ (x : Input) (m : Moment) (st : Stands x m) (count : ℕ) (granted : List ℕ) (clear : IsClear x.table.flows granted)
    (late : (c : ℕ) → holds_coflow x.table.flows granted c ≡ true → slice_index x.arrivals c ≤ time_at m)
    (owed : (f : ℕ) → Contains granted f → count ≤ left_after x.table.flows m.slots f) where
  abbrev more : List (List ℕ)
  more = replicate count granted

  times_more : (f : ℕ) → times (m.slots ++ more) f ≡ times m.slots f + count * cond {A = ℕ} (holds granted f) 1 0
  times_more f = times_append m.slots more f ∙ ap (λ n. times m.slots f + n) (sum_by-replicate (λ slot. cond (holds slot f) 1 0) count granted)

  within_more : (f : ℕ) → times (m.slots ++ more) f ≤ units_of x.table.flows f
  within_more f = elim (cases_Bool (holds granted f)) [
    | inl yes' ↦ omega (arith, times_more f, ap {B = ℕ} (λ b. count * cond b 1 0) yes', owed f (any_has granted f yes'), st.within f)
    | inr not' ↦ omega (arith, times_more f, ap {B = ℕ} (λ b. count * cond b 1 0) not', st.within f)
  ]

  late_new : (c k : ℕ) → length m.slots ≤ k → holds_coflow x.table.flows (get_or more (k - length m.slots) []) c ≡ true → slice_index x.arrivals c ≤ k
  late_new c k past is = elim (cases_lt (k - length m.slots) count) [
    | inl low ↦ omega (arith, past, late c (ap (λ slot. holds_coflow x.table.flows slot c) (sym (get_or-replicate count (k - length m.slots) granted [] low)) ∙ is))
    | inr high ↦
        let e = get_or_past more (k - length m.slots) [] (omega (arith, high, length-replicate count granted)) in
        absurd (true≢false (sym is ∙ ap (λ slot. holds_coflow x.table.flows slot c) e))
  ]

  late_more : (c k : ℕ) → holds_coflow x.table.flows (get_or (m.slots ++ more) k []) c ≡ true → slice_index x.arrivals c ≤ k
  late_more c k is = elim (cases_lt k (length m.slots)) [
    | inl low ↦ st.late c k (ap (λ slot. holds_coflow x.table.flows slot c) (sym (get_or_append_left m.slots more [] k low)) ∙ is)
    | inr past ↦ late_new c k past (ap (λ slot. holds_coflow x.table.flows slot c) (sym (get_or-append_right m.slots more (length m.slots) k [] refl past)) ∙ is)
  ]

  stands_served : Stands x (served_at m count granted)
  stands_served = record {
    arrivals_are = st.arrivals_are;
    every_is = st.every_is;
    each_mark = st.each_mark;
    arrived = λ c is. omega (arith, st.arrived c is, length-append m.slots more);
    in_line = st.in_line;
    clear = All-append (IsClear x.table.flows) m.slots more st.clear (All-replicate (IsClear x.table.flows) count granted clear);
    late = late_more;
    within = within_more;
    served = λ f lt gone. omega (arith, st.served f lt gone, within_more f, times_more f);
  }

none_clear : (x : Input) → IsClear x.table.flows []
none_clear x = record { ascending = λ k lt. absurd (omega arith); flow = λ k d lt. absurd (omega arith); apart = λ f g hf hg shares. absurd (nothing_in f hf) }

-- ---- who joins, and who leaves

module _ (x : Input) (m : Moment) (c : ℕ) (st : Stands x m) (joins : Registers m.course (time_at m) c) where
  abbrev marks : List Bool
  marks = set m.course.registered c true

  marked : is_marked marks c ≡ true
  marked = get_or-set_same m.course.registered c true false (omega (arith, joins.waits.coflow_in, ap (λ (l : List ℕ). length l) st.arrivals_are, st.each_mark))

  before : (d : ℕ) → is_marked marks d ≡ true → (d ≡ c) ⊎ (is_marked m.course.registered d ≡ true)
  before d is = elim (cases_eq d c) [
    | inl same ↦ inl same
    | inr other ↦ inr (sym (get_or-set_other m.course.registered c d true false other) ∙ is)
  ]

  still : (d : ℕ) → is_marked m.course.registered d ≡ true → is_marked marks d ≡ true
  still d is = elim (cases_eq d c) [
    | inl same ↦ ap (is_marked marks) same ∙ marked
    | inr other ↦ get_or-set_other m.course.registered c d true false other ∙ is
  ]

  stands_joined : Stands x (joined_at m c)
  stands_joined = record {
    arrivals_are = st.arrivals_are;
    every_is = st.every_is;
    each_mark = length-set m.course.registered c true ∙ st.each_mark;
    arrived = λ d is. elim (before d is) [
      | inl same ↦ omega (arith, joins.arrived, ap (slice_index x.arrivals) same, ap (λ l. slice_index l c) st.arrivals_are)
      | inr joined ↦ st.arrived d joined
    ];
    in_line = λ d has. elim (Contains-push_cases m.line c d has) [
      | inl there ↦ still d (st.in_line d there)
      | inr same ↦ subst (λ k. is_marked marks k ≡ true) same marked
    ];
    clear = st.clear;
    late = st.late;
    within = st.within;
    served = st.served;
  }

abbrev share : Input → Moment → ℕ → ℕ → ℕ
share x m c f = if coflow_of x.table.flows f == c then left_after x.table.flows m.slots f else 0

pub owes_all : (x : Input) (m : Moment) (c f : ℕ) → f < length x.table.flows → coflow_of x.table.flows f ≡ c → left_after x.table.flows m.slots f ≤ owes x m c
owes_all x m c f lt of =
    let here = ap {B = ℕ} (λ b. if b then left_after x.table.flows m.slots f else 0) (eq-eqb (coflow_of x.table.flows f) c of) in
    omega (arith, here, member_within_sum (share x m c) (range_with_len 0 (length x.table.flows)) f (number_in 0 (length x.table.flows) f (omega arith) (omega (arith, lt))))

stands_left : (x : Input) (m : Moment) (c : ℕ) → IsInput x → Stands x m → Withdraws m.course (time_at m) (owed_at x m) c → Stands x (left_the_line m c)
stands_left x m c input st leaves = record {
  arrivals_are = st.arrivals_are;
  every_is = st.every_is;
  each_mark = st.each_mark;
  arrived = st.arrived;
  in_line = λ d has. st.in_line d (filter_in (λ k. not (k == c)) m.line d has).0;
  clear = st.clear;
  late = st.late;
  within = st.within;
  served = λ f lt gone. elim (cases_eq (coflow_of x.table.flows f) c) [
    | inl same ↦
        let low : c < length x.table.ids = omega (arith, marked_below m.course.registered c leaves.served.is_present.joined, st.each_mark, input.each_arrival) in
        omega (arith, st.within f, owes_all x m c f lt same, owed_is x m c low, leaves.served.served)
    | inr other ↦ st.served f lt (sym (get_or-set_other m.course.withdrawn c (coflow_of x.table.flows f) true false other) ∙ gone)
  ];
}

stands_published : (x : Input) (m : Moment) (facts : FactsTold) → Stands x m → Stands x (published_at x m facts)
stands_published x m facts st = record {
  arrivals_are = st.arrivals_are;
  every_is = st.every_is;
  each_mark = st.each_mark;
  arrived = st.arrived;
  in_line = λ d has.
      let here = (filter_in (is_here m) (answer_of (asked_at x m) facts) d has).1 in
      (and_parts (is_marked m.course.registered d) (not (is_marked m.course.withdrawn d)) here).0;
  clear = st.clear;
  late = st.late;
  within = st.within;
  served = st.served;
}

-- ---- steps

granted_late : (x : Input) (m : Moment) (granted : List ℕ) → Stands x m → All (λ f. Contains m.line (coflow_of x.table.flows f)) granted → (c : ℕ) →
    holds_coflow x.table.flows granted c ≡ true → slice_index x.arrivals c ≤ time_at m
granted_late x m granted st in_line c is =
    let (f, has, of) = any_where (λ f. coflow_of x.table.flows f == c) granted is in
    let joined = st.in_line (coflow_of x.table.flows f) (All-contains (λ f. Contains m.line (coflow_of x.table.flows f)) granted f in_line has) in
    omega (arith, st.arrived (coflow_of x.table.flows f) joined, ap (slice_index x.arrivals) (eqb-true (coflow_of x.table.flows f) c of))

stands_next : (x : Input) (m : Moment) (a : Action) (next : Moment) → IsInput x → Stands x m → DoesNext x m a → IsNext x m a next → Stands x next
stands_next x m (Register c) next input st does is = subst (Stands x) (sym is) (stands_joined x m c st does.applies)
stands_next x m (Withdraw c) next input st does is = subst (Stands x) (sym is) (stands_left x m c input st does.applies)
stands_next x m Publish next input st does is = subst (Stands x) (sym is.next_is) (stands_published x m is.facts st)
stands_next x m (Run most) next input st does is =
    subst (Stands x) (sym is.next_is)
    (stands_served x m st is.count is.granted (grants_clear x.table.flows m.line (left_after x.table.flows m.slots) is.granted is.grants)
    (granted_late x m is.granted st is.grants.in_line) is.run.owed)
stands_next x m (Skip to) next input st does is =
    subst (Stands x) (sym is) (stands_served x m st (to - 1 - time_at m) [] (none_clear x) (λ c held. absurd (true≢false (sym held))) (λ f has. absurd (nothing_in f has)))
stands_next x m End next input st does is = absurd is
stands_next x m (TooMany count) next input st does is = absurd is

stands_along : (x : Input) (m : Moment) (steps : List Step) → IsInput x → Stands x m → AreStepsFrom x m steps → Stands x (moment_after m steps)
stands_along x m [] input st are = st
stands_along x m (s ∷ ss) input st are = stands_along x s.next ss input (stands_next x m s.action s.next input st are.0 are.1) are.2

-- ---- the end

module _ (x : Input) (m : Moment) (input : IsInput x) (st : Stands x m) (ends : DoesNext x m End) where
  all_joined : (c : ℕ) → c < length x.table.ids → is_marked m.course.registered c ≡ true
  all_joined c lt = elim (cases_Bool (is_marked m.course.registered c)) [
    | inl is ↦ is
    | inr not' ↦
        let inside : c < length m.course.arrivals = omega (arith, lt, input.each_arrival, ap (λ (l : List ℕ). length l) st.arrivals_are) in
        absurd (end_none_waits m.course (time_at m) (owed_at x m) c ends (record { coflow_in = inside; waits = not' }))
  ]

  all_served : (f : ℕ) → f < length x.table.flows → times m.slots f ≡ units_of x.table.flows f
  all_served f lt =
      let c = coflow_of x.table.flows f in
      let low : c < length x.table.ids = input.table.coflow f record { coflow = 0; ingress = 0; egress = 0; units = 0 } lt in
      elim (cases_Bool (is_marked m.course.withdrawn c)) [
        | inl gone ↦ st.served f lt gone
        | inr stays ↦ elim (zero_or_more (left_after x.table.flows m.slots f)) [
          | inl nought ↦ omega (arith, nought, st.within f)
          | inr some ↦
              let owing : 0 < slice_index (owed_at x m) c = omega (arith, some, owes_all x m c f lt refl, owed_is x m c low) in
              absurd (end_none_owes m.course (time_at m) (owed_at x m) (omega (arith, input.some, st.every_is)) ends
              (c, record { joined = all_joined c low; stays = stays }, owing))
        ]
      ]

  none_early : (c : ℕ) → All (λ slot. holds_coflow x.table.flows slot c ≡ false) (take (slice_index x.arrivals c) m.slots)
  none_early c k d lt =
      let a = slice_index x.arrivals c in
      let inside : k < a = omega (arith, lt, length-take a m.slots) in
      let within : k < length m.slots = omega (arith, lt, length-take a m.slots) in
      let at : get_or (take a m.slots) k d ≡ get_or m.slots k [] = get_or-take a m.slots k d inside ∙ get_or_default m.slots k d [] within in
      ap (λ slot. holds_coflow x.table.flows slot c) at ∙
      false_from_ne_true (holds_coflow x.table.flows (get_or m.slots k []) c) (λ is. absurd (omega (arith, st.late c k is, inside)))

  released : IsReleased x.table.flows (slice_index x.arrivals) m.slots
  released = record { valid = record { clear = st.clear; served = all_served }; none_early = none_early }

pub replay_is_released : (x : Input) (ranker : Meaning) (slots : List (List ℕ)) → IsInput x → IsReplay x ranker slots →
    IsReleased x.table.flows (slice_index x.arrivals) slots
replay_is_released x ranker slots input replay =
    let st = subst (Stands x) (sym replay.reached.last) (stands_along x (first_moment x ranker) replay.reached.steps input (stands_first x ranker) replay.reached.are) in
    subst (IsReleased x.table.flows (slice_index x.arrivals)) (sym replay.slots_are) (released x replay.moment input st replay.ends)
