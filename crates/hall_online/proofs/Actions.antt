-- What each action makes of an online run that is under way.
use Rattle.std.proofs.Common.{◌≡◌, ℕ, ◌+◌, ◌-◌, ◌^◌, ◌≤◌, ◌<◌, inl, inr, Bool, true, false, true≢false, List, [], ◌∷◌, ◌++◌, length, map, refl, sym, ap, subst}
use Rattle.std.proofs.Common.{◌∙◌, arith, max, replicate}
use Rattle.std.specs.Prelude.{◌&&◌, not, if◌then◌else◌, nat_le, nat_lt, slice_index, slice_set}
use Rattle.std.specs.List.{slice_index_or}
use Rattle.std.proofs.lemmas.Bool.{and_from, and_right, cases_eq, false_from_ne_true, lt-leb}
use Rattle.std.proofs.lemmas.List.{get_or-set_other, get_or-set_same, length-set, length-append}
use Rattle.coflow_units.specs.declared.limits.TheConstants.{MAX_SLOT}
use Rattle.coflow_units.specs.Flows.{units_of}
use Rattle.epochs.specs.declared.action.Action.{Action}
use Rattle.epochs.specs.declared.action.Action.TheVariants.{Publish as PublishOrder, Register as Join, Skip as Pass, Withdraw as Leave}
use Rattle.epochs.specs.Choice.{IsFirstAction}
use Rattle.epochs.specs.Course.{after, Course, is_marked, SomeOwes}
use Rattle.journal.specs.declared.command.Command.TheVariants.{Publish, Register, Skip, Withdraw}
use Rattle.journal.specs.declared.command.Entry.{Entry}
use Rattle.journal.specs.declared.command.Reply.{Reply}
use Rattle.journal.specs.declared.command.Reply.TheVariants.{Joined, Late, Left, Skipped, StillOpen, StillOwed, Version}
use Rattle.journal.specs.declared.opening.Opening.{Opening}
use Rattle.journal.specs.Answer.{answer, on_run, skipped}
use Rattle.journal.specs.Closed.{LeavesRuns, LeavesSlots, schedule_of, wire_of}
use Rattle.journal.specs.Fold.{state_of}
use Rattle.journal.specs.Journal.{asked, entry, IsLegal}
use Rattle.journal.specs.Line.{owing, version}
use Rattle.journal.specs.Moves.{SkipsSlots}
use Rattle.journal.specs.State.{owed, slot_end}
use Rattle.journal.proofs.Leaving.{leaves_push}
use Rattle.client_session.specs.Models.{HallModel}
use Rattle.slot_runner.specs.Models.{RunnerModel}
use Rattle.online_runs.specs.Deeds.{commands_of, course_of, Deed, IsOnlineSoFar, journal_of, owed_after, time_of}
use Rattle.online_runs.specs.Value.{epoch_at, epochs_of}
use Rattle.epochs.proofs.Actions.{skip_none_owes}
use Rattle.online_runs.proofs.Along.{arrival_fits, course_more, Holds, holds_so_far, journal_snoc, so_far_more}
use Rattle.online_runs.proofs.Counts.{few_entries}
use Rattle.online_runs.proofs.Owed.{owes_as_flows, same_owes}
use Rattle.online_runs.proofs.Rising.{no_epoch, one_epoch}
use Rattle.online_runs.proofs.Standing.{below, joins_by, leaves_by, next_some, none_owing, publishes_by, skip_goes}
use Rattle.online_runs.proofs.Times.{same_owed, same_time, skip_time, time_is}
use Rattle.online_runs.specs.declared.progress.Progress.{Progress}
use Rattle.hall_online.specs.Halls.{HasAsked, IsReady}
use Rattle.hall_online.specs.Serving.{ComesFirst, IsUnderWay}
use Rattle.online_runs.specs.Tells.{TellsRun}

module _ (hall : HallModel) (old : RunnerModel) (arrivals : List ℕ) (every : ℕ) (s : Course) (p : Progress) (h : IsUnderWay hall old arrivals every s p) where
  abbrev o : Opening
  o = hall.setting.opening

  abbrev j : List Entry
  j = old.driver.journal

  -- ---- what holds there

  held : Holds o (course_of o arrivals every h.deeds) (journal_of h.deeds)
  held = holds_so_far o arrivals every h.deeds h.input h.so_far

  pub now_holds : Holds o s j
  now_holds = subst (λ c. Holds o c j) (sym h.course_is) (subst (Holds o (course_of o arrivals every h.deeds)) (sym h.journal_is) held)

  pub short_journal : length j + 8190 ≤ o.limit
  short_journal = omega (arith, few_entries o s j now_holds.stands now_holds.few, h.room)

  module _ (a : Action) (first : ComesFirst s p a) where
    pub first_here : IsFirstAction s (time_of o j) (owed_after o j) a
    first_here = subst (λ t. IsFirstAction s t (owed_after o j) a) h.tells.time_is (subst (λ l. IsFirstAction s p.time l a) h.tells.owed_is first)

    pub first_there : IsFirstAction (course_of o arrivals every h.deeds) (time_of o (journal_of h.deeds)) (owed_after o (journal_of h.deeds)) a
    first_there =
        subst (λ c. IsFirstAction c (time_of o (journal_of h.deeds)) (owed_after o (journal_of h.deeds)) a) h.course_is
        (subst (λ l. IsFirstAction s (time_of o l) (owed_after o l) a) h.journal_is first_here)

    module _ (es : List Entry) (asks : map asked es ≡ map (λ k. (0, k)) (commands_of a)) (legal : IsLegal o (j ++ es)) where
      abbrev deed : Deed
      deed = record { action = a; entries = es }

      legal_there : IsLegal o (journal_of h.deeds ++ es)
      legal_there = subst (λ l. IsLegal o (l ++ es)) h.journal_is legal

      pub so_far_now : IsOnlineSoFar o arrivals every (h.deeds ++ deed ∷ [])
      so_far_now = so_far_more o arrivals every h.deeds deed h.so_far (record { first = first_there; asks = asks }) legal_there

      pub journal_now : j ++ es ≡ journal_of (h.deeds ++ deed ∷ [])
      journal_now = ap (λ l. l ++ es) h.journal_is ∙ sym (journal_snoc h.deeds deed)

      pub goes_on : (new : RunnerModel) (q : Progress) → IsReady hall new → new.driver.journal ≡ j ++ es → TellsRun o (after s (time_of o j) a) (j ++ es) q →
          IsUnderWay hall new arrivals every (after s p.time a) q
      goes_on new q ready is tells = record {
        deeds = h.deeds ++ deed ∷ [];
        input = h.input;
        room = h.room;
        ready = ready;
        journal_is = is ∙ journal_now;
        so_far = so_far_now;
        course_is = ap (λ t. after s t a) h.tells.time_is ∙ ap (λ c. after c (time_of o j) a) h.course_is ∙
            ap (λ l. after (course_of o arrivals every h.deeds) (time_of o l) a) h.journal_is ∙ sym (course_more o arrivals every h.deeds deed);
        tells = subst (λ l. TellsRun o (after s p.time a) l q) (sym is) (subst (λ t. TellsRun o (after s t a) (j ++ es) q) (sym h.tells.time_is) tells);
      }

  -- the coflow that joins or leaves is one of the table's
  pub joins_low : (c : ℕ) → ComesFirst s p (Join c) → c < length o.table.ids
  joins_low c first = omega (arith, (first_here (Join c) first).applies.waits.coflow_in, now_holds.stands.given.each_arrival)

  pub leaves_low : (c : ℕ) → ComesFirst s p (Leave c) → c < length o.table.ids
  leaves_low c first = below o s j now_holds.stands c (first_here (Leave c) first).applies.served.is_present.joined

  pub room_here : length j < o.limit
  room_here = omega (arith, short_journal)

-- ---- where no slot passes

quiet_tells : (o : Opening) (s t : Course) (j k : List Entry) (p q : Progress) → TellsRun o s j p → LeavesSlots o j k → q.time ≡ p.time → q.left.items ≡ p.left.items →
    q.owed.items ≡ p.owed.items → q.schedule ≡ p.schedule → q.epochs.items ≡ epochs_of o k → length q.present.items ≡ length o.table.ids →
    ((c : ℕ) → is_marked q.present.items c ≡ (is_marked t.registered c && not (is_marked t.withdrawn c))) → TellsRun o t k q
quiet_tells o s t j k p q h l time left owes schedule epochs each present = record {
  time_is = time ∙ h.time_is ∙ sym (same_time o j k l);
  each_left = ap (λ (xs : List ℕ). length xs) left ∙ h.each_left;
  left_is = λ f lt. ap (λ xs. slice_index xs f) left ∙ h.left_is f lt ∙ sym (same_owed o j k f l);
  owed_is = owes ∙ h.owed_is ∙ sym (same_owes o j k l);
  each_present = each;
  present_is = present;
  epochs_are = epochs;
  schedule_is = schedule ∙ h.schedule_is ∙ sym l.schedule;
}

module _ (hall : HallModel) (old new : RunnerModel) (arrivals : List ℕ) (every : ℕ) (s : Course) (p q : Progress) (h : IsUnderWay hall old arrivals every s p)
    (ready : IsReady hall new)
    (time : q.time ≡ p.time) (left : q.left.items ≡ p.left.items) (owes : q.owed.items ≡ p.owed.items) (schedule : q.schedule ≡ p.schedule) where
  abbrev o' : Opening
  o' = hall.setting.opening

  abbrev j' : List Entry
  j' = old.driver.journal

  holds' : Holds o' s j'
  holds' = now_holds hall old arrivals every s p h

  -- ---- a coflow joins

  module _ (c : ℕ) (first : ComesFirst s p (Join c)) (asked' : HasAsked o' (Register c) old new) where
    here_joins : IsFirstAction s (time_of o' j') (owed_after o' j') (Join c)
    here_joins = first_here hall old arrivals every s p h (Join c) first

    abbrev joining : Entry
    joining = entry 0 (Register c) Joined

    abbrev reply_entries : List Entry
    reply_entries = entry 0 (Register c) (answer o' (state_of o' j') (Register c)) ∷ []

    pub joins_so : new.driver.journal ≡ j' ++ joining ∷ []
    joins_so =
        asked' ∙
        ap (λ l. j' ++ l)
        (joins_by o' s j' holds'.stands c here_joins.applies.waits.waits here_joins.applies.waits.coflow_in reply_entries refl (subst (IsLegal o') asked' ready.alone.seen.legal))

    joins_leave : LeavesRuns o' j' (j' ++ joining ∷ [])
    joins_leave = leaves_push o' j' joining refl

    not_gone : is_marked s.withdrawn c ≡ false
    not_gone = false_from_ne_true (is_marked s.withdrawn c) (λ is. absurd (true≢false (sym (holds'.times.gone c is) ∙ here_joins.applies.waits.waits)))

    joined_present : q.present.items ≡ slice_set p.present.items c true → (d : ℕ) →
        is_marked q.present.items d ≡ (is_marked (slice_set s.registered c true) d && not (is_marked s.withdrawn d))
    joined_present is d = elim (cases_eq d c) [
      | inl same ↦
          let low : c < length p.present.items = omega (arith, here_joins.applies.waits.coflow_in, h.tells.each_present, holds'.stands.given.each_arrival) in
          let low' : c < length s.registered = omega (arith, here_joins.applies.waits.coflow_in, holds'.stands.registered_len) in
          let yes : is_marked q.present.items d ≡ true =
          ap (λ l. is_marked l d) is ∙ ap (is_marked (slice_set p.present.items c true)) same ∙ get_or-set_same p.present.items c true false low in
          yes ∙
          sym (and_from (is_marked (slice_set s.registered c true) d) (not (is_marked s.withdrawn d))
          (ap (is_marked (slice_set s.registered c true)) same ∙ get_or-set_same s.registered c true false low') (ap not (ap (is_marked s.withdrawn) same ∙ not_gone)))
      | inr other ↦
          ap (λ l. is_marked l d) is ∙ get_or-set_other p.present.items c d true false other ∙ h.tells.present_is d ∙
          ap (λ b. b && not (is_marked s.withdrawn d)) (sym (get_or-set_other s.registered c d true false other))
    ]

    pub joined_done : q.epochs.items ≡ p.epochs.items → q.present.items ≡ slice_set p.present.items c true → IsUnderWay hall new arrivals every (after s p.time (Join c)) q
    joined_done epochs is =
        goes_on hall old arrivals every s p h (Join c) first (joining ∷ []) refl (subst (IsLegal o') joins_so ready.alone.seen.legal) new q ready joins_so
        (quiet_tells o' s (after s (time_of o' j') (Join c)) j' (j' ++ joining ∷ []) p q h.tells joins_leave.slots time left owes schedule
        (epochs ∙ h.tells.epochs_are ∙ sym (no_epoch o' j' joining refl)) (ap (λ (l : List Bool). length l) is ∙ length-set p.present.items c true ∙ h.tells.each_present)
        (joined_present is))

    pub joined_sends : (port : ℕ) → wire_of o' new.driver.journal port ≡ wire_of o' j' port
    joined_sends port = ap (λ l. wire_of o' l port) joins_so ∙ joins_leave.slots.wire port

    pub joined_longer : length j' < length new.driver.journal
    joined_longer = omega (arith, ap (λ (l : List Entry). length l) joins_so, length-append j' (joining ∷ []))

  -- ---- a coflow leaves

  module _ (c : ℕ) (first : ComesFirst s p (Leave c)) (asked' : HasAsked o' (Withdraw c) old new) where
    here_leaves : IsFirstAction s (time_of o' j') (owed_after o' j') (Leave c)
    here_leaves = first_here hall old arrivals every s p h (Leave c) first

    abbrev leaving : Entry
    leaving = entry 0 (Withdraw c) Left

    pub leaves_so : new.driver.journal ≡ j' ++ leaving ∷ []
    leaves_so =
        asked' ∙
        ap (λ l. j' ++ l)
        (leaves_by o' s j' holds'.stands c here_leaves.applies.served.is_present (entry 0 (Withdraw c) (answer o' (state_of o' j') (Withdraw c)) ∷ []) refl
        (subst (IsLegal o') asked' ready.alone.seen.legal))

    leaves_leave : LeavesRuns o' j' (j' ++ leaving ∷ [])
    leaves_leave = leaves_push o' j' leaving refl

    left_present : q.present.items ≡ slice_set p.present.items c false → (d : ℕ) →
        is_marked q.present.items d ≡ (is_marked s.registered d && not (is_marked (slice_set s.withdrawn c true) d))
    left_present is d = elim (cases_eq d c) [
      | inl same ↦
          let low' : c < length o'.table.ids = below o' s j' holds'.stands c here_leaves.applies.served.is_present.joined in
          let low : c < length p.present.items = omega (arith, low', h.tells.each_present) in
          let low'' : c < length s.withdrawn = omega (arith, low', holds'.stands.withdrawn_len, holds'.stands.given.each_arrival) in
          let no' : is_marked q.present.items d ≡ false =
          ap (λ l. is_marked l d) is ∙ ap (is_marked (slice_set p.present.items c false)) same ∙ get_or-set_same p.present.items c false false low in
          no' ∙
          sym (and_right (is_marked s.registered d) (not (is_marked (slice_set s.withdrawn c true) d))
          (ap not (ap (is_marked (slice_set s.withdrawn c true)) same ∙ get_or-set_same s.withdrawn c true false low'')))
      | inr other ↦
          ap (λ l. is_marked l d) is ∙ get_or-set_other p.present.items c d false false other ∙ h.tells.present_is d ∙
          ap (λ b. is_marked s.registered d && not b) (sym (get_or-set_other s.withdrawn c d true false other))
    ]

    pub left_done : q.epochs.items ≡ p.epochs.items → q.present.items ≡ slice_set p.present.items c false → IsUnderWay hall new arrivals every (after s p.time (Leave c)) q
    left_done epochs is =
        goes_on hall old arrivals every s p h (Leave c) first (leaving ∷ []) refl (subst (IsLegal o') leaves_so ready.alone.seen.legal) new q ready leaves_so
        (quiet_tells o' s (after s (time_of o' j') (Leave c)) j' (j' ++ leaving ∷ []) p q h.tells leaves_leave.slots time left owes schedule
        (epochs ∙ h.tells.epochs_are ∙ sym (no_epoch o' j' leaving refl)) (ap (λ (l : List Bool). length l) is ∙ length-set p.present.items c false ∙ h.tells.each_present)
        (left_present is))

    pub left_sends : (port : ℕ) → wire_of o' new.driver.journal port ≡ wire_of o' j' port
    left_sends port = ap (λ l. wire_of o' l port) leaves_so ∙ leaves_leave.slots.wire port

    pub left_longer : length j' < length new.driver.journal
    left_longer = omega (arith, ap (λ (l : List Entry). length l) leaves_so, length-append j' (leaving ∷ []))

  -- ---- an order is published

  module _ (first : ComesFirst s p PublishOrder) (asked' : HasAsked o' Publish old new) where
    here_publishes : IsFirstAction s (time_of o' j') (owed_after o' j') PublishOrder
    here_publishes = first_here hall old arrivals every s p h PublishOrder first

    abbrev publishing : Entry
    publishing = entry 0 Publish (Version (version (state_of o' j') + 1))

    pub publishes_so : new.driver.journal ≡ j' ++ publishing ∷ []
    publishes_so =
        asked' ∙
        ap (λ l. j' ++ l)
        (publishes_by o' s j' holds'.stands here_publishes.applies.1 (entry 0 Publish (answer o' (state_of o' j') Publish) ∷ []) refl
        (subst (IsLegal o') asked' ready.alone.seen.legal))

    publishes_leave : LeavesRuns o' j' (j' ++ publishing ∷ [])
    publishes_leave = leaves_push o' j' publishing refl

    pub published_done : q.epochs.items ≡ p.epochs.items ++ epoch_at o' j' ∷ [] → q.present.items ≡ p.present.items → IsUnderWay hall new arrivals every
        (after s p.time PublishOrder) q
    published_done epochs is =
        goes_on hall old arrivals every s p h PublishOrder first (publishing ∷ []) refl (subst (IsLegal o') publishes_so ready.alone.seen.legal) new q ready publishes_so
        (quiet_tells o' s (after s (time_of o' j') PublishOrder) j' (j' ++ publishing ∷ []) p q h.tells publishes_leave.slots time left owes schedule
        (epochs ∙ ap (λ l. l ++ epoch_at o' j' ∷ []) h.tells.epochs_are ∙ sym (one_epoch o' j' publishing refl))
        (ap (λ (l : List Bool). length l) is ∙ h.tells.each_present) (λ d. ap (λ l. is_marked l d) is ∙ h.tells.present_is d))

    pub published_sends : (port : ℕ) → wire_of o' new.driver.journal port ≡ wire_of o' j' port
    published_sends port = ap (λ l. wire_of o' l port) publishes_so ∙ publishes_leave.slots.wire port

    pub published_longer : length j' < length new.driver.journal
    published_longer = omega (arith, ap (λ (l : List Entry). length l) publishes_so, length-append j' (publishing ∷ []))

-- ---- slots pass

module _ (hall : HallModel) (old new : RunnerModel) (arrivals : List ℕ) (every : ℕ) (s : Course) (p q : Progress) (h : IsUnderWay hall old arrivals every s p) (to : ℕ)
    (first : ComesFirst s p (Pass to)) where
  abbrev o'' : Opening
  o'' = hall.setting.opening

  abbrev j'' : List Entry
  j'' = old.driver.journal

  holds'' : Holds o'' s j''
  holds'' = now_holds hall old arrivals every s p h

  here_skips : IsFirstAction s (time_of o'' j'') (owed_after o'' j'') (Pass to)
  here_skips = first_here hall old arrivals every s p h (Pass to) first

  abbrev at : ℕ
  at = here_skips.applies.arrival.0

  fits : at ≤ 2 ^ 32
  fits = arrival_fits o'' s j'' holds''.stands at here_skips.applies.arrival.1.arrival

  nobody : SomeOwes s.registered s.withdrawn (owed_after o'' j'') → ⊥
  nobody = skip_none_owes s (time_of o'' j'') (owed_after o'' j'') to holds''.stands.given.epoch_some here_skips

  later : time_of o'' j'' < at
  later = here_skips.applies.arrival.1.later

  to_is : to ≡ at + 1
  to_is = here_skips.applies.arrival.2

  pub pass_answer : answer o'' (state_of o'' j'') (Skip to) ≡ Skipped to
  pass_answer =
      ap (λ x. on_run x (λ r. StillOpen r.first) (skipped o'' (state_of o'' j'') to)) holds''.stands.journal.closed ∙
      ap {B = Reply}
      (λ n. if nat_lt 0 n then StillOwed (slice_index_or (owing o'' (state_of o'' j'')) 0 0) else if nat_le slot_end to then Late to else Skipped (max (state_of o'' j'').next to))
      (none_owing o'' s j'' holds''.stands nobody) ∙
      ap {B = Reply} (λ b. if b then Late to else Skipped (max (state_of o'' j'').next to)) (lt-leb slot_end to (omega (arith, to_is, fits))) ∙
      ap Skipped (omega (arith, to_is, later, next_some o'' s j'' holds''.stands))

  -- as many slots pass
  pub pass_some : 1 ≤ to - 1 - p.time
  pass_some = omega (arith, to_is, later, h.tells.time_is)

  pub pass_fits : length p.schedule + (to - 1 - p.time) ≤ MAX_SLOT
  pass_fits =
      omega (arith, to_is, fits, later, h.tells.time_is, ap (λ (l : List (List ℕ)). length l) h.tells.schedule_is, time_is o'' s j'' holds''.stands)

  abbrev skipping : Entry
  skipping = entry 0 (Skip to) (Skipped to)

  module _ (ready : IsReady hall new) (asked' : HasAsked o'' (Skip to) old new) where
    passes_so : new.driver.journal ≡ j'' ++ skipping ∷ []
    passes_so = asked' ∙ ap (λ r. j'' ++ entry 0 (Skip to) r ∷ []) pass_answer

    legal_passed : IsLegal o'' (j'' ++ skipping ∷ [])
    legal_passed = subst (IsLegal o'') passes_so ready.alone.seen.legal

    goes : SkipsSlots o'' j'' (j'' ++ skipping ∷ []) to
    goes = skip_goes o'' s j'' holds''.stands to at to_is later fits nobody (skipping ∷ []) refl legal_passed

    same_left : (f : ℕ) → owed o'' (state_of o'' (j'' ++ skipping ∷ [])) f ≡ owed o'' (state_of o'' j'') f
    same_left f = ap (λ n. units_of o''.table.flows f - n) (goes.sent f)

    pub passed_done : q.time ≡ to - 1 → q.left.items ≡ p.left.items → q.owed.items ≡ p.owed.items → q.present.items ≡ p.present.items → q.epochs.items ≡ p.epochs.items →
        q.schedule ≡ p.schedule ++ replicate (to - 1 - p.time) [] → IsUnderWay hall new arrivals every (after s p.time (Pass to)) q
    passed_done time left owes present epochs schedule =
        let k = j'' ++ skipping ∷ [] in
        let many : to - 1 - p.time ≡ to - (state_of o'' j'').next = omega (arith, h.tells.time_is, to_is, later, next_some o'' s j'' holds''.stands) in
        goes_on hall old arrivals every s p h (Pass to) first (skipping ∷ []) refl legal_passed new q ready passes_so
        (record {
          time_is = omega (arith, time, to_is, skip_time o'' j'' k to at to_is goes);
          each_left = ap (λ (xs : List ℕ). length xs) left ∙ h.tells.each_left;
          left_is = λ f lt. ap (λ xs. slice_index xs f) left ∙ h.tells.left_is f lt ∙ sym (same_left f);
          owed_is = owes ∙ h.tells.owed_is ∙ sym (owes_as_flows o'' j'' k same_left);
          each_present = ap (λ (l : List Bool). length l) present ∙ h.tells.each_present;
          present_is = λ c. ap (λ l. is_marked l c) present ∙ h.tells.present_is c;
          epochs_are = epochs ∙ h.tells.epochs_are ∙ sym (no_epoch o'' j'' skipping refl);
          schedule_is = schedule ∙ ap (λ l. l ++ replicate (to - 1 - p.time) []) h.tells.schedule_is ∙
              ap (λ n. schedule_of o'' j'' ++ replicate n []) many ∙ sym goes.schedule;
        })

    pub passed_sends : (port : ℕ) → wire_of o'' new.driver.journal port ≡ wire_of o'' j'' port
    passed_sends port = ap (λ l. wire_of o'' l port) passes_so ∙ goes.wire port

    pub passed_longer : length j'' < length new.driver.journal
    passed_longer = omega (arith, ap (λ (l : List Entry). length l) passes_so, length-append j'' (skipping ∷ []))
