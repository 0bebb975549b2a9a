-- Slots pass in a replay and in an online run alike: the line is served, or nobody is.
use Rattle.std.proofs.Common.{◌≡◌, ℕ, ◌+◌, ◌-◌, ◌<◌, ◌≤◌, inl, inr, Bool, List, [], ◌∷◌, ◌++◌, Contains, None, Option, Some, append-nil, append_assoc, get_or}
use Rattle.std.proofs.Common.{length, map, max, min, refl, replicate, sym, ap, subst, ◌∙◌, arith}
use Rattle.std.specs.Prelude.{◌&&◌, if◌then◌else◌, nat_le, nat_lt, slice_index_or}
use Rattle.std.specs.List.{range_with_len}
use Rattle.std.proofs.lemmas.Bool.{and_from, and_parts, lt-leb, lt-ltb, ltb-true}
use Rattle.std.proofs.lemmas.List.Elements.{All-append, All-cons, All-nil, All-push, Contains-get_or}
use Rattle.coflow_units.specs.Flows.{coflow_of, Instance}
use Rattle.coflow_units.specs.Grants.{IsGrants, IsRunLength}
use Rattle.coflow_units.specs.Served.{left_after}
use Rattle.coflow_units.proofs.GrantLaws.{one_grants}
use Rattle.coflow_units.proofs.Lists.{filter_in, keeps, number_below, number_in}
use Rattle.coflow_units.proofs.Numbers.{zero_or_more}
use Rattle.coflow_units.proofs.RunLengths.{one_run_length}
use Rattle.coflow_units.proofs.ServedRuns.{same_grants}
use Rattle.coflow_units.proofs.Sums.{any_has, any_in}
use Rattle.epochs.specs.declared.action.Action.TheVariants.{Run as Serve, Skip as Pass}
use Rattle.epochs.specs.Course.{Course, is_marked, SomeOwes}
use Rattle.epochs.proofs.Actions.{skip_none_owes}
use Rattle.journal.specs.declared.command.Command.TheVariants.{Close, Open, Skip}
use Rattle.journal.specs.declared.command.Entry.{Entry}
use Rattle.journal.specs.declared.command.Reply.{Reply}
use Rattle.journal.specs.declared.command.Reply.TheVariants.{Closed, Late, Opened, Skipped, StillOpen, StillOwed}
use Rattle.journal.specs.declared.opening.Opening.{Opening}
use Rattle.journal.specs.Answer.{on_run, skipped}
use Rattle.journal.specs.Closed.{schedule_of}
use Rattle.journal.specs.Driven.{closed_in, driven, GoesOnByRun, opening}
use Rattle.journal.specs.Fold.{after as after_entry, closed, start, state_of}
use Rattle.journal.specs.Journal.{asked, entry, IsLegal, line_of}
use Rattle.journal.specs.Line.{line, newest, newest_in, owing}
use Rattle.journal.specs.Moves.{SkipsSlots}
use Rattle.journal.specs.Runs.{granted, slots_for}
use Rattle.journal.specs.Sound.{InRange}
use Rattle.journal.specs.State.{has, owed, Run as OpenRun, slot_end, State}
use Rattle.journal.proofs.Between.{answered}
use Rattle.journal.proofs.Driving.{driven_even, driven_goes_on}
use Rattle.journal.proofs.Growth.{state_append, state_snoc}
use Rattle.journal.proofs.MovingEntries.{by_skip}
use Rattle.journal.proofs.OpenReplies.{open_reply}
use Rattle.journal.proofs.Opened.{run_length_is}
use Rattle.journal.proofs.UnderWay.{close_reply}
use Rattle.online_runs.specs.Deeds.{owed_after}
use Rattle.online_runs.proofs.Marks.{HasMarked}
use Rattle.online_runs.proofs.Owed.{flow_owes, owes_by_flow}
use Rattle.online_runs.proofs.Shapes.{drive_of, one_asked, run_entries, run_is_driven, two_asked}
use Rattle.replays.specs.Moments.{DoesNext, Input, IsServedFor, Moment, owed_at, served_at, time_at}
use Rattle.replays.specs.Replayed.{IsInput}
use Rattle.replays.proofs.Holding.{longer}
use Rattle.replays.proofs.Marks.{here_from, here_parts}
use Rattle.replays.proofs.MasterLines.{same_line}
use Rattle.replays.proofs.OnlineAlike.{Fits, IsAlike, below, next_slot, opening_of, same_owed, same_owes, state_at}
use Rattle.replays.proofs.Remaining.{goes_on, GoesOn, skip_time}

-- the coflows of the state are those of the other one, with their weights and their orders
record KeepsCoflows (s t : State) : Type 0 where
  joined : t.joined ≡ s.joined
  left : t.left ≡ s.left
  published : t.published ≡ s.published
  weights : (c : ℕ) → t.weight c ≡ s.weight c

closing_keeps : (o : Opening) (s : State) (run : Option OpenRun) → KeepsCoflows s (closed o s run)
closing_keeps o s None = record { joined = refl; left = refl; published = refl; weights = λ c. refl }
closing_keeps o s (Some r) = record { joined = refl; left = refl; published = refl; weights = λ c. refl }

-- a run leaves the coflows as they are
run_keeps : (o : Opening) (j : List Entry) (most : ℕ) (r : ℕ × ℕ × ℕ) → KeepsCoflows (state_of o j) (state_of o (j ++ run_entries most r))
run_keeps o j most r =
    let opened = after_entry o (state_of o j) (Open most) (Opened r.0 r.1 r.2) in
    let kept = closing_keeps o opened opened.run in
    subst (KeepsCoflows (state_of o j)) (sym (state_append o (start o) j (run_entries most r)))
    (record { joined = kept.joined; left = kept.left; published = kept.published; weights = kept.weights })

module _ (x : Input) (input : IsInput x) (m : Moment) (j : List Entry) (h : IsAlike x m j) where
  abbrev o : Opening
  o = opening_of x

  abbrev now : State
  now = state_at x j

  abbrev left : ℕ → ℕ
  left = left_after x.table.flows m.slots

  abbrev owes_in_line : ℕ → Bool
  owes_in_line f = has (line now) (coflow_of x.table.flows f) && nat_lt 0 (owed o now f)

  -- ---- who owes

  some_owing : SomeOwes m.course.registered m.course.withdrawn (owed_after o j) → 0 < length (owing o now)
  some_owing (c, present, owes) =
      let (f, by) = flow_owes o j c owes in
      let stands : Contains (line now) (coflow_of x.table.flows f) =
      subst (λ l. Contains l (coflow_of x.table.flows f)) (sym h.line_is)
      (subst (Contains m.line) (sym by.of_coflow) (h.holds.lined c (here_from m c present.joined present.stays))) in
      let passes = and_from (has (line now) (coflow_of x.table.flows f)) (nat_lt 0 (owed o now f)) (any_in (line now) (coflow_of x.table.flows f) stands)
      (lt-ltb 0 (owed o now f) by.owes) in
      let (k, lt, at) = keeps owes_in_line (range_with_len 0 (length x.table.flows)) f (number_in 0 (length x.table.flows) f (omega arith) (omega (arith, by.flow_in))) passes in
      omega (arith, lt)

  none_owing : (SomeOwes m.course.registered m.course.withdrawn (owed_after o j) → ⊥) → length (owing o now) ≡ 0
  none_owing none = elim (zero_or_more (length (owing o now))) [
    | inl nought ↦ nought
    | inr some ↦
        let f = get_or (owing o now) 0 0 in
        let c = coflow_of x.table.flows f in
        let (in', passes) = filter_in owes_in_line (range_with_len 0 (length x.table.flows)) f (Contains-get_or (owing o now) 0 0 some) in
        let (stands, owes) = and_parts (has (line now) c) (nat_lt 0 (owed o now f)) passes in
        let (joined, stays) = here_parts m c (h.holds.stands c (subst (λ l. Contains l c) h.line_is (any_has (line now) c stands))) in
        let low : f < length x.table.flows = omega (arith, number_below 0 (length x.table.flows) f in') in
        absurd (none (
          c,
          record { joined = joined; stays = stays },
          owes_by_flow o j c f (below x input m j h c joined) (record { flow_in = low; of_coflow = refl; owes = ltb-true 0 (owed o now f) owes }),
        ))
  ]

  -- ---- a run

  module _ (most : ℕ) (next : Moment) (does : DoesNext x m (Serve most)) (is : IsServedFor x m most next) (es : List Entry)
      (asks : map asked es ≡ (0, Open most) ∷ (0, Close) ∷ []) (legal : IsLegal o (j ++ es)) where
    abbrev some : 1 ≤ most
    some = omega (arith, does.applies.stop.later)

    goes_so : GoesOn x m next
    goes_so = goes_on x m next (Serve most) input h.holds does is

    -- the first slot of the run, its slots, and how many flows it grants
    abbrev run : ℕ × ℕ × ℕ
    run = (now.next, slots_for o now most, length (granted o now))

    opened_by : (r : Reply) (more : List Entry) → IsLegal o (j ++ (entry 0 (Open most) r ∷ more)) → r ≡ Opened run.0 run.1 run.2
    opened_by r more fine = elim (open_reply o j more 0 most r fine h.closed) [
      | inl (reply, none) ↦
          absurd (omega (arith, none, some_owing (subst (SomeOwes m.course.registered m.course.withdrawn) (sym (same_owes x input m j h)) does.applies.owing)))
      | inr rest ↦ elim rest [
        | inl (reply, end, more') ↦ absurd (omega (arith, end, next_slot x input m j h, h.holds.short))
        | inr (reply, more', not') ↦ reply
      ]
    ]

    runs_by : es ≡ run_entries most run
    runs_by =
        let (first, last, shape) = two_asked es (Open most) Close asks in
        let opened = opened_by first (entry 0 Close last ∷ []) (subst (λ l. IsLegal o (j ++ l)) shape legal) in
        let so : es ≡ entry 0 (Open most) (Opened run.0 run.1 run.2) ∷ entry 0 Close last ∷ [] = shape ∙ ap (λ r. entry 0 (Open most) r ∷ entry 0 Close last ∷ []) opened in
        let d = drive_of most run in
        let split : j ++ (entry 0 (Open most) (Opened run.0 run.1 run.2) ∷ entry 0 Close last ∷ []) ≡ closed_in j d ++ entry 0 Close last ∷ [] =
        sym (ap (λ l. l ++ entry 0 Close last ∷ []) (append-nil ((j ++ []) ++ opening d ∷ [])) ∙ ap (λ l. (l ++ opening d ∷ []) ++ entry 0 Close last ∷ []) (append-nil j) ∙
        append_assoc j (opening d ∷ []) (entry 0 Close last ∷ [])) in
        let closed' : last ≡ Closed run.0 =
        close_reply o j (closed_in j d) d 0 last (subst (IsLegal o) (ap (λ l. j ++ l) so ∙ split) legal) (run_is_driven o j most run).under_way in
        so ∙ ap (λ r. entry 0 (Open most) (Opened run.0 run.1 run.2) ∷ entry 0 Close r ∷ []) closed'

    abbrev later : List Entry
    later = j ++ run_entries most run

    legal_later : IsLegal o later
    legal_later = subst (λ l. IsLegal o (j ++ l)) runs_by legal

    range_later : InRange o later
    range_later =
        All-append (Fits x) j (run_entries most run) h.in_range
        (All-cons (Fits x) (entry 0 (Open most) (Opened run.0 run.1 run.2)) (entry 0 Close (Closed run.0) ∷ []) (lt-ltb 0 most (omega (arith, some)))
        (All-cons (Fits x) (entry 0 Close (Closed run.0)) [] refl (All-nil (Fits x))))

    run_goes : GoesOnByRun o j later (drive_of most run)
    run_goes = driven_goes_on o j later (drive_of most run) legal_later range_later (run_is_driven o j most run)

    same_granted : granted o now ≡ is.granted
    same_granted =
        let there : IsGrants x.table.flows (line_of o j) (owed o now) (granted o now) =
        subst (λ l. IsGrants x.table.flows (line_of o l) (owed o (state_of o l)) (granted o (state_of o l))) (append-nil j) run_goes.grants in
        let of_line : IsGrants x.table.flows m.line (owed o now) (granted o now) = subst (λ l. IsGrants x.table.flows l (owed o now) (granted o now)) h.line_is there in
        let of_left : IsGrants x.table.flows m.line left (granted o now) =
        same_grants x.table.flows m.line (owed o now) left (granted o now) (λ f lt more. omega (arith, more, same_owed x input m j h f))
        (λ f lt more. omega (arith, more, same_owed x input m j h f)) of_line in
        one_grants x.table.flows m.line left (granted o now) is.granted of_left is.grants

    same_count : slots_for o now most ≡ is.count
    same_count =
        let fits = min most (slot_end - now.next) in
        let made = run_length_is o now most in
        let there : IsRunLength left is.granted fits (slots_for o now most) = record {
          asked = made.asked;
          owed = λ f in'. omega (arith, made.owed f (subst (λ l. Contains l f) (sym same_granted) in'), same_owed x input m j h f);
          longest = elim made.longest [
            | inl full ↦ inl full
            | inr (f, in', at) ↦ inr (f, subst (λ l. Contains l f) same_granted in', sym (same_owed x input m j h f) ∙ at)
          ];
        } in
        let few : time_at m + is.count ≤ 1103806595072 =
        omega (arith, goes_so.holds.short, ap (λ (n : Moment). time_at n) is.next_is, longer m is.count is.granted) in
        let here : IsRunLength left is.granted fits is.count = record {
          asked = omega (arith, is.run.asked, few, next_slot x input m j h);
          owed = is.run.owed;
          longest = elim is.run.longest [
            | inl full ↦ inl (omega (arith, full, few, next_slot x input m j h))
            | inr ended ↦ inr ended
          ];
        } in
        one_run_length left is.granted fits (slots_for o now most) is.count there here

    slots_later : next.slots ≡ schedule_of o later
    slots_later =
        let gs = driven o j (drive_of most run) in
        let same : gs ≡ is.granted = ap (λ l. granted o (state_of o l)) (append-nil j) ∙ same_granted in
        ap (λ (n : Moment). n.slots) is.next_is ∙ ap (λ l. l ++ replicate is.count is.granted) h.slots ∙
        ap (λ n. schedule_of o j ++ replicate n is.granted) (sym same_count) ∙ ap (λ l. schedule_of o j ++ replicate run.1 l) (sym same) ∙
        sym (run_goes.schedule ∙ ap (λ l. schedule_of o j ++ l) (driven_even o j (drive_of most run) (λ f in'. refl)))

    runs_so : IsAlike x next later
    runs_so =
        let kept = run_keeps o j most run in
        let as_before : (n : Moment) → n ≡ served_at m is.count is.granted → (n.course ≡ m.course) × (n.line ≡ m.line) × (n.ranker ≡ m.ranker) =
        λ n e. (ap (λ (n : Moment). n.course) e, ap (λ (n : Moment). n.line) e, ap (λ (n : Moment). n.ranker) e) in
        let (course, line', ranker) = as_before next is.next_is in
        record {
          holds = goes_so.holds;
          ranker = ranker ∙ h.ranker;
          legal = legal_later;
          in_range = range_later;
          closed = run_goes.run_after;
          weights = λ c. kept.weights c ∙ h.weights c;
          slots = slots_later;
          joined = subst (λ (s : Course). HasMarked (state_at x later).joined s.registered) (sym course)
              (subst (λ l. HasMarked l m.course.registered) (sym kept.joined) h.joined);
          left = subst (λ (s : Course). HasMarked (state_at x later).left s.withdrawn) (sym course) (subst (λ l. HasMarked l m.course.withdrawn) (sym kept.left) h.left);
          line_is = same_line now (state_at x later) kept.joined kept.left kept.published ∙ h.line_is ∙ sym line';
          ranked = λ d has'.
              let in' : Contains (newest now) d = subst (λ (p : List Instance). Contains (newest_in p) d) kept.published has' in
              ap (λ (s : Course). is_marked s.registered d) course ∙ h.ranked d in';
        }

    pub alike_served : IsAlike x next (j ++ es)
    alike_served = subst (λ l. IsAlike x next (j ++ l)) (sym runs_by) runs_so

  -- ---- slots are skipped

  module _ (to : ℕ) (next : Moment) (does : DoesNext x m (Pass to)) (is : next ≡ served_at m (to - 1 - time_at m) []) (es : List Entry)
      (asks : map asked es ≡ (0, Skip to) ∷ []) (legal : IsLegal o (j ++ es)) where
    abbrev skipping : Entry
    skipping = entry 0 (Skip to) (Skipped to)

    none_owes : SomeOwes m.course.registered m.course.withdrawn (owed_after o j) → ⊥
    none_owes owes =
        skip_none_owes m.course (time_at m) (owed_at x m) to (omega (arith, h.holds.every_is, input.some)) does
        (subst (SomeOwes m.course.registered m.course.withdrawn) (same_owes x input m j h) owes)

    in_time : (time_at m < to - 1) × (to - 1 ≤ 4294967296) × (1 ≤ to)
    in_time = skip_time x m to input h.holds does.applies

    skips_to : skipped o now to ≡ Skipped to
    skips_to =
        ap {B = Reply}
        (λ n. if nat_lt 0 n then StillOwed (slice_index_or (owing o now) 0 0) else if nat_le slot_end to then Late to else Skipped (max now.next to))
        (none_owing none_owes) ∙
        ap {B = Reply} (λ b. if b then Late to else Skipped (max now.next to)) (lt-leb slot_end to (omega (arith, in_time.1, in_time.2))) ∙
        ap Skipped (omega (arith, in_time.0, next_slot x input m j h))

    skips_by : es ≡ skipping ∷ []
    skips_by =
        let (r, shape) = one_asked es (Skip to) asks in
        let reply : r ≡ Skipped to =
        answered o j [] (entry 0 (Skip to) r) (subst (λ l. IsLegal o (j ++ l)) shape legal) ∙ ap (λ x. on_run x (λ r. StillOpen r.first) (skipped o now to)) h.closed ∙ skips_to in
        shape ∙ ap (λ x. entry 0 (Skip to) x ∷ []) reply

    skips_legal : IsLegal o (j ++ skipping ∷ [])
    skips_legal = subst (λ l. IsLegal o (j ++ l)) skips_by legal

    skip_goes : SkipsSlots o j (j ++ skipping ∷ []) to
    skip_goes = by_skip o j skipping to skips_legal h.in_range refl

    abbrev passed : Moment
    passed = served_at m (to - 1 - time_at m) []

    skips_so : IsAlike x passed (j ++ skipping ∷ [])
    skips_so =
        let made = state_snoc o j skipping in
        let count : to - 1 - time_at m ≡ to - now.next = omega (arith, next_slot x input m j h) in
        record {
          holds = (goes_on x m passed (Pass to) input h.holds does refl).holds;
          ranker = h.ranker;
          legal = skips_legal;
          in_range = All-push (Fits x) j skipping h.in_range refl;
          closed = skip_goes.run_after;
          weights = λ d. ap (λ (t : State). t.weight d) made ∙ h.weights d;
          slots = ap (λ l. l ++ replicate (to - 1 - time_at m) []) h.slots ∙ ap (λ n. schedule_of o j ++ replicate n []) count ∙ sym skip_goes.schedule;
          joined = subst (λ (t : State). HasMarked t.joined m.course.registered) (sym made) h.joined;
          left = subst (λ (t : State). HasMarked t.left m.course.withdrawn) (sym made) h.left;
          line_is = ap line made ∙ h.line_is;
          ranked = λ d has'. h.ranked d (subst (λ (t : State). Contains (newest t) d) made has');
        }

    pub alike_skipped : IsAlike x next (j ++ es)
    alike_skipped = subst (λ n. IsAlike x n (j ++ es)) (sym is) (subst (λ l. IsAlike x passed (j ++ l)) (sym skips_by) skips_so)
