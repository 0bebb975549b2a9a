-- What holds between the actions of an online run: no run is open, the course marks who joined and who left, and only
-- arrivals were skipped to.
use Rattle.std.proofs.Common.{◌≡◌, ℕ, ◌+◌, ◌^◌, ◌<◌, ◌≤◌, inl, inr, true, false, List, [], ◌∷◌, ◌++◌, length, map, max, refl, sym, ap}
use Rattle.std.proofs.Common.{subst, ◌∙◌, arith, append-nil, append_assoc, Option, Some, None}
use Rattle.std.specs.Prelude.{All, if◌then◌else◌, nat_le, nat_lt, not, slice_index, slice_index_or, slice_set}
use Rattle.std.proofs.lemmas.Bool.{and_from, and_parts, lt-leb, lt-ltb, not-true, not_from_false}
use Rattle.std.proofs.lemmas.List.{length-replicate, length-set}
use Rattle.std.proofs.lemmas.List.Elements.{All-append, All-cons, All-nil, All-push}
use Rattle.coflow_units.specs.declared.limits.TheConstants.{MAX_PUBLISHINGS, MAX_UNITS}
use Rattle.coflow_units.specs.Flows.{coflow_of}
use Rattle.coflow_units.proofs.Numbers.{zero_or_more}
use Rattle.epochs.specs.declared.action.Action.TheVariants.{Publish as PublishOrder, Register as Join, Run as Serve, Skip as Pass, Withdraw as Leave}
use Rattle.epochs.specs.Course.{after, at_first, Course, is_marked, IsPresent, SomeOwes}
use Rattle.journal.specs.declared.command.Command.TheVariants.{Close, Open, Publish, Register, Skip, Withdraw}
use Rattle.journal.specs.declared.command.Entry.{Entry}
use Rattle.journal.specs.declared.command.Reply.{Reply}
use Rattle.journal.specs.declared.command.Reply.TheVariants.{Already, Closed, Joined, Late, Left, NotHere, Opened, Skipped, StillOpen, StillOwed, Version}
use Rattle.journal.specs.declared.opening.Opening.{Opening}
use Rattle.journal.specs.Answer.{in_range, on_run, skipped}
use Rattle.journal.specs.Counts.{furthest_skip, is_noting, skipped_to}
use Rattle.journal.specs.Driven.{closed_in, Drive, GoesOnByRun, opening}
use Rattle.journal.specs.Fold.{after as after_entry, closed, start, state_of}
use Rattle.journal.specs.Journal.{asked, entry, IsLegal}
use Rattle.journal.specs.Line.{owing, version}
use Rattle.journal.specs.Runs.{granted, slots_for}
use Rattle.journal.specs.Moves.{SkipsSlots}
use Rattle.journal.specs.Sound.{InRange}
use Rattle.journal.specs.State.{has, is_present, owed, Run, slot_end, State}
use Rattle.journal.proofs.Between.{answered}
use Rattle.journal.proofs.Counting.{units_within}
use Rattle.journal.proofs.Driving.{driven_goes_on}
use Rattle.journal.proofs.Growth.{state_append, state_snoc}
use Rattle.journal.proofs.Leaving.{leaves_push}
use Rattle.journal.proofs.MovingEntries.{by_skip}
use Rattle.journal.proofs.NextSlots.{few_by_units}
use Rattle.journal.proofs.OpenReplies.{open_reply}
use Rattle.journal.proofs.Replies.{nothing_owing}
use Rattle.journal.proofs.Sound.{legal_sound}
use Rattle.journal.proofs.UnderWay.{close_reply}
use Rattle.online_runs.specs.Deeds.{owed_after, time_of}
use Rattle.online_runs.specs.Input.{IsOnlineInput}
use Rattle.epochs.proofs.Actions.{marked_below}
use Rattle.online_runs.proofs.Marks.{HasMarked, marks_more, marks_none}
use Rattle.online_runs.proofs.Owed.{flow_owes, owes_by_flow}
use Rattle.online_runs.proofs.Shapes.{drive_of, one_asked, run_entries, run_is_driven, two_asked}

abbrev pub Fits : Opening → Entry → Type 0
Fits o e = in_range o e.command ≡ true

abbrev pub NoNote : Entry → Type 0
NoNote e = is_noting e.command ≡ false

-- No run is open. The journal is legal, and nobody took note in it, skipped far, or weighed a coflow anew.
pub record IsBetweenRuns (o : Opening) (j : List Entry) : Type 0 where
  pub legal : IsLegal o j
  pub in_range : InRange o j
  pub no_notes : All NoNote j
  pub closed : (state_of o j).run ≡ None
  pub skips : furthest_skip j ≤ 2 ^ 32 + 1
  pub weights : (c : ℕ) → (state_of o j).weight c ≡ slice_index o.weights c

-- what holds between the actions of an online run
pub record Stands (o : Opening) (s : Course) (j : List Entry) : Type 0 where
  pub journal : IsBetweenRuns o j
  pub given : IsOnlineInput o s.arrivals s.every
  pub registered_len : length s.registered ≡ length s.arrivals
  pub withdrawn_len : length s.withdrawn ≡ length s.arrivals
  pub few_published : s.published ≤ MAX_PUBLISHINGS
  pub joined : HasMarked (state_of o j).joined s.registered
  pub left : HasMarked (state_of o j).left s.withdrawn

-- ---- the beginning

pub stands_first : (o : Opening) (arrivals : List ℕ) (every : ℕ) → IsOnlineInput o arrivals every → Stands o (at_first arrivals every) []
stands_first o arrivals every i = record {
  journal = record {
    legal = tt;
    in_range = All-nil (Fits o);
    no_notes = All-nil NoNote;
    closed = refl;
    skips = omega arith;
    weights = λ c. refl;
  };
  given = i;
  registered_len = omega (arith, length-replicate (length arrivals) false);
  withdrawn_len = omega (arith, length-replicate (length arrivals) false);
  few_published = omega arith;
  joined = marks_none (length arrivals);
  left = marks_none (length arrivals);
}

-- an entry skips no further than it tells
furthest_more : (j : List Entry) (e : Entry) → furthest_skip (j ++ e ∷ []) ≤ max (furthest_skip j) (skipped_to e.reply)
furthest_more [] e = omega arith
furthest_more (x ∷ xs) e = omega (arith, furthest_more xs e)

module _ (o : Opening) (s : Course) (j : List Entry) (h : Stands o s j) where
  abbrev now : State
  now = state_of o j

  abbrev time : ℕ
  time = time_of o j

  -- ---- the time

  pub few_slots : now.next ≤ 2 ^ 32 + 1 + MAX_UNITS
  few_slots = omega (
    arith,
    few_by_units o j h.journal.legal h.journal.in_range h.journal.no_notes,
    h.journal.skips,
    units_within o j h.journal.legal h.journal.in_range,
    h.given.opening.table.few_units,
  )

  pub next_some : 1 ≤ now.next
  next_some = (legal_sound o j h.journal.legal h.journal.in_range).next_some

  -- ---- who is present

  pub here : (c : ℕ) → IsPresent s.registered s.withdrawn c → is_present now c ≡ true
  here c p = and_from (has now.joined c) (not (has now.left c)) (h.joined c ∙ p.joined) (not_from_false (has now.left c) (h.left c ∙ p.stays))

  pub below : (c : ℕ) → is_marked s.registered c ≡ true → c < length o.table.ids
  below c is = omega (arith, marked_below s.registered c is, h.registered_len, h.given.each_arrival)

  -- ---- a coflow joins

  module _ (c : ℕ) (waits : is_marked s.registered c ≡ false) (low : c < length s.arrivals) (es : List Entry) (asks : map asked es ≡ (0, Register c) ∷ [])
      (legal : IsLegal o (j ++ es)) where
    abbrev joining : Entry
    joining = entry 0 (Register c) Joined

    pub joins_by : es ≡ joining ∷ []
    joins_by =
        let (r, is) = one_asked es (Register c) asks in
        let reply : r ≡ Joined =
        answered o j [] (entry 0 (Register c) r) (subst (λ l. IsLegal o (j ++ l)) is legal) ∙ ap {B = Reply} (λ b. if b then Already else Joined) (h.joined c ∙ waits) in
        is ∙ ap (λ x. entry 0 (Register c) x ∷ []) reply

    pub joins_more : Stands o (after s time (Join c)) (j ++ joining ∷ [])
    joins_more = record {
      journal = record {
        legal = subst (λ l. IsLegal o (j ++ l)) joins_by legal;
        in_range = All-push (Fits o) j joining h.journal.in_range (lt-ltb c (length o.table.ids) (omega (arith, low, h.given.each_arrival)));
        no_notes = All-push NoNote j joining h.journal.no_notes refl;
        closed = (leaves_push o j joining refl).run ∙ h.journal.closed;
        skips = omega (arith, furthest_more j joining, h.journal.skips);
        weights = λ c. ap (λ (t : State). t.weight c) (state_snoc o j joining) ∙ h.journal.weights c;
      };
      given = h.given;
      registered_len = length-set s.registered c true ∙ h.registered_len;
      withdrawn_len = h.withdrawn_len;
      few_published = h.few_published;
      joined = subst (λ (t : State). HasMarked t.joined (slice_set s.registered c true)) (sym (state_snoc o j joining))
          (marks_more now.joined s.registered c (omega (arith, low, h.registered_len)) h.joined);
      left = subst (λ (t : State). HasMarked t.left s.withdrawn) (sym (state_snoc o j joining)) h.left;
    }

  -- ---- a coflow leaves

  module _ (c : ℕ) (present : IsPresent s.registered s.withdrawn c) (es : List Entry) (asks : map asked es ≡ (0, Withdraw c) ∷ []) (legal : IsLegal o (j ++ es)) where
    abbrev leaving : Entry
    leaving = entry 0 (Withdraw c) Left

    pub leaves_by : es ≡ leaving ∷ []
    leaves_by =
        let (r, is) = one_asked es (Withdraw c) asks in
        let reply : r ≡ Left =
        answered o j [] (entry 0 (Withdraw c) r) (subst (λ l. IsLegal o (j ++ l)) is legal) ∙ ap {B = Reply} (λ b. if b then Left else NotHere) (here c present) in
        is ∙ ap (λ x. entry 0 (Withdraw c) x ∷ []) reply

    pub leaves_more : Stands o (after s time (Leave c)) (j ++ leaving ∷ [])
    leaves_more = record {
      journal = record {
        legal = subst (λ l. IsLegal o (j ++ l)) leaves_by legal;
        in_range = All-push (Fits o) j leaving h.journal.in_range (lt-ltb c (length o.table.ids) (below c present.joined));
        no_notes = All-push NoNote j leaving h.journal.no_notes refl;
        closed = (leaves_push o j leaving refl).run ∙ h.journal.closed;
        skips = omega (arith, furthest_more j leaving, h.journal.skips);
        weights = λ c. ap (λ (t : State). t.weight c) (state_snoc o j leaving) ∙ h.journal.weights c;
      };
      given = h.given;
      registered_len = h.registered_len;
      withdrawn_len = length-set s.withdrawn c true ∙ h.withdrawn_len;
      few_published = h.few_published;
      joined = subst (λ (t : State). HasMarked t.joined s.registered) (sym (state_snoc o j leaving)) h.joined;
      left = subst (λ (t : State). HasMarked t.left (slice_set s.withdrawn c true)) (sym (state_snoc o j leaving))
          (marks_more now.left s.withdrawn c (omega (arith, below c present.joined, h.withdrawn_len, h.given.each_arrival)) h.left);
    }

  -- ---- an order is published

  module _ (few : s.published < MAX_PUBLISHINGS) (es : List Entry) (asks : map asked es ≡ (0, Publish) ∷ []) (legal : IsLegal o (j ++ es)) where
    abbrev publishing : Entry
    publishing = entry 0 Publish (Version (version now + 1))

    pub publishes_by : es ≡ publishing ∷ []
    publishes_by =
        let (r, is) = one_asked es Publish asks in
        let reply : r ≡ Version (version now + 1) =
        answered o j [] (entry 0 Publish r) (subst (λ l. IsLegal o (j ++ l)) is legal) ∙ ap (λ x. on_run x (λ r. StillOpen r.first) (Version (version now + 1))) h.journal.closed in
        is ∙ ap (λ x. entry 0 Publish x ∷ []) reply

    pub publishes_more : Stands o (after s time PublishOrder) (j ++ publishing ∷ [])
    publishes_more = record {
      journal = record {
        legal = subst (λ l. IsLegal o (j ++ l)) publishes_by legal;
        in_range = All-push (Fits o) j publishing h.journal.in_range refl;
        no_notes = All-push NoNote j publishing h.journal.no_notes refl;
        closed = (leaves_push o j publishing refl).run ∙ h.journal.closed;
        skips = omega (arith, furthest_more j publishing, h.journal.skips);
        weights = λ c. ap (λ (t : State). t.weight c) (state_snoc o j publishing) ∙ h.journal.weights c;
      };
      given = h.given;
      registered_len = h.registered_len;
      withdrawn_len = h.withdrawn_len;
      few_published = omega (arith, few);
      joined = subst (λ (t : State). HasMarked t.joined s.registered) (sym (state_snoc o j publishing)) h.joined;
      left = subst (λ (t : State). HasMarked t.left s.withdrawn) (sym (state_snoc o j publishing)) h.left;
    }

  -- ---- who owes

  pub some_owing : SomeOwes s.registered s.withdrawn (owed_after o j) → 0 < length (owing o now)
  some_owing (c, present, owes) =
      let (f, by) = flow_owes o j c owes in
      elim (zero_or_more (length (owing o now))) [
        | inl none ↦
            let nought = (nothing_owing o j h.given.opening).0 none f by.flow_in (ap (is_present now) by.of_coflow ∙ here c present) in
            absurd (omega (arith, nought, by.owes))
        | inr some ↦ some
      ]

  pub parts_here : (c : ℕ) → is_present now c ≡ true → IsPresent s.registered s.withdrawn c
  parts_here c is =
      let (a, b) = and_parts (has now.joined c) (not (has now.left c)) is in
      record { joined = sym (h.joined c) ∙ a; stays = sym (h.left c) ∙ not-true (has now.left c) b }

  pub none_owing : (SomeOwes s.registered s.withdrawn (owed_after o j) → ⊥) → length (owing o now) ≡ 0
  none_owing none =
      (nothing_owing o j h.given.opening).1
      (λ f low there.
      let c = coflow_of o.table.flows f in
      let present = parts_here c there in
      elim (zero_or_more (owed o now f)) [
        | inl nought ↦ nought
        | inr owes ↦ absurd (none (c, present, owes_by_flow o j c f (below c present.joined) (record { flow_in = low; of_coflow = refl; owes = owes })))
      ]
      )

  -- ---- a run

  module _ (most : ℕ) (some : 1 ≤ most) (owes : SomeOwes s.registered s.withdrawn (owed_after o j)) (es : List Entry) (asks : map asked es ≡ (0, Open most) ∷ (0, Close) ∷ [])
      (legal : IsLegal o (j ++ es)) where
    opened_by : (r : Reply) (more : List Entry) → IsLegal o (j ++ (entry 0 (Open most) r ∷ more)) → (x : ℕ × ℕ × ℕ) × (r ≡ Opened x.0 x.1 x.2)
    opened_by r more fine = elim (open_reply o j more 0 most r fine h.journal.closed) [
      | inl (is, none) ↦ absurd (omega (arith, none, some_owing owes))
      | inr rest ↦
          elim rest [
            | inl (is, end, more') ↦ absurd (omega (arith, end, few_slots))
            | inr (is, more', not') ↦ ((now.next, slots_for o now most, length (granted o now)), is)
          ]
    ]

    pub runs_by : (r : ℕ × ℕ × ℕ) × (es ≡ run_entries most r)
    runs_by =
        let (first, last, is) = two_asked es (Open most) Close asks in
        let fine = subst (λ l. IsLegal o (j ++ l)) is legal in
        let (x, opened) = opened_by first (entry 0 Close last ∷ []) fine in
        let so : es ≡ entry 0 (Open most) (Opened x.0 x.1 x.2) ∷ entry 0 Close last ∷ [] = is ∙ ap (λ r. entry 0 (Open most) r ∷ entry 0 Close last ∷ []) opened in
        let d = drive_of most x in
        let under_way = (run_is_driven o j most x).under_way in
        let split : j ++ (entry 0 (Open most) (Opened x.0 x.1 x.2) ∷ entry 0 Close last ∷ []) ≡ closed_in j d ++ entry 0 Close last ∷ [] =
        sym (ap (λ l. l ++ entry 0 Close last ∷ []) (append-nil ((j ++ []) ++ opening d ∷ [])) ∙ ap (λ l. (l ++ opening d ∷ []) ++ entry 0 Close last ∷ []) (append-nil j) ∙
        append_assoc j (opening d ∷ []) (entry 0 Close last ∷ [])) in
        let closed' : last ≡ Closed x.0 = close_reply o j (closed_in j d) d 0 last (subst (IsLegal o) (ap (λ l. j ++ l) so ∙ split) legal) under_way in
        (x, so ∙ ap (λ r. entry 0 (Open most) (Opened x.0 x.1 x.2) ∷ entry 0 Close r ∷ []) closed')

  module _ (most : ℕ) (some : 1 ≤ most) (r : ℕ × ℕ × ℕ) (legal : IsLegal o (j ++ run_entries most r)) where
    abbrev drive : Drive
    drive = drive_of most r

    abbrev later : List Entry
    later = j ++ run_entries most r

    pub range_later : InRange o later
    range_later =
        All-append (Fits o) j (run_entries most r) h.journal.in_range
        (All-cons (Fits o) (entry 0 (Open most) (Opened r.0 r.1 r.2)) (entry 0 Close (Closed r.0) ∷ []) (lt-ltb 0 most (omega (arith, some)))
        (All-cons (Fits o) (entry 0 Close (Closed r.0)) [] refl (All-nil (Fits o))))

    pub run_goes : GoesOnByRun o j later drive
    run_goes = driven_goes_on o j later drive legal range_later (run_is_driven o j most r)

    closes_same : (t : State) (run : Option Run) → HasMarked t.joined s.registered × HasMarked t.left s.withdrawn →
        HasMarked (closed o t run).joined s.registered × HasMarked (closed o t run).left s.withdrawn
    closes_same t None m = m
    closes_same t (Some x) m = m

    same_marks : HasMarked (state_of o later).joined s.registered × HasMarked (state_of o later).left s.withdrawn
    same_marks =
        subst (λ (t : State). HasMarked t.joined s.registered × HasMarked t.left s.withdrawn) (sym (state_append o (start o) j (run_entries most r)))
        (closes_same (after_entry o now (Open most) (Opened r.0 r.1 r.2)) (after_entry o now (Open most) (Opened r.0 r.1 r.2)).run (h.joined, h.left))

    closes_weight : (t : State) (run : Option Run) (c : ℕ) → (closed o t run).weight c ≡ t.weight c
    closes_weight t None c = refl
    closes_weight t (Some x) c = refl

    same_weight : (c : ℕ) → (state_of o later).weight c ≡ now.weight c
    same_weight c =
        let opened = after_entry o now (Open most) (Opened r.0 r.1 r.2) in
        ap (λ (t : State). t.weight c) (state_append o (start o) j (run_entries most r)) ∙ closes_weight opened opened.run c

    run_skips : furthest_skip later ≤ 2 ^ 32 + 1
    run_skips =
        let opened = entry 0 (Open most) (Opened r.0 r.1 r.2) in
        let closed' = entry 0 Close (Closed r.0) in
        let split : furthest_skip ((j ++ opened ∷ []) ++ closed' ∷ []) ≡ furthest_skip later = ap furthest_skip (append_assoc j (opened ∷ []) (closed' ∷ [])) in
        omega (arith, split, furthest_more (j ++ opened ∷ []) closed', furthest_more j opened, h.journal.skips)

    pub runs_more : Stands o (after s time (Serve most)) later
    runs_more = record {
      journal = record {
        legal = legal;
        in_range = range_later;
        no_notes = All-append NoNote j (run_entries most r) h.journal.no_notes
            (All-cons NoNote (entry 0 (Open most) (Opened r.0 r.1 r.2)) (entry 0 Close (Closed r.0) ∷ []) refl
            (All-cons NoNote (entry 0 Close (Closed r.0)) [] refl (All-nil NoNote)));
        closed = run_goes.run_after;
        skips = run_skips;
        weights = λ c. same_weight c ∙ h.journal.weights c;
      };
      given = h.given;
      registered_len = h.registered_len;
      withdrawn_len = h.withdrawn_len;
      few_published = h.few_published;
      joined = same_marks.0;
      left = same_marks.1;
    }

  -- ---- slots are skipped

  module _ (to at : ℕ) (is : to ≡ at + 1) (later : time < at) (fits : at ≤ 2 ^ 32) (none : SomeOwes s.registered s.withdrawn (owed_after o j) → ⊥) (es : List Entry)
      (asks : map asked es ≡ (0, Skip to) ∷ []) (legal : IsLegal o (j ++ es)) where
    abbrev skipping : Entry
    skipping = entry 0 (Skip to) (Skipped to)

    pub skips_to : skipped o now to ≡ Skipped to
    skips_to =
        ap {B = Reply}
        (λ n. if nat_lt 0 n then StillOwed (slice_index_or (owing o now) 0 0) else if nat_le slot_end to then Late to else Skipped (max now.next to))
        (none_owing none) ∙
        ap {B = Reply} (λ b. if b then Late to else Skipped (max now.next to)) (lt-leb slot_end to (omega (arith, is, fits))) ∙
        ap Skipped (omega (arith, is, later, next_some))

    pub skips_by : es ≡ skipping ∷ []
    skips_by =
        let (r, shape) = one_asked es (Skip to) asks in
        let reply : r ≡ Skipped to =
        answered o j [] (entry 0 (Skip to) r) (subst (λ l. IsLegal o (j ++ l)) shape legal) ∙
        ap (λ x. on_run x (λ r. StillOpen r.first) (skipped o now to)) h.journal.closed ∙ skips_to in
        shape ∙ ap (λ x. entry 0 (Skip to) x ∷ []) reply

    skips_legal : IsLegal o (j ++ skipping ∷ [])
    skips_legal = subst (λ l. IsLegal o (j ++ l)) skips_by legal

    pub skip_goes : SkipsSlots o j (j ++ skipping ∷ []) to
    skip_goes = by_skip o j skipping to skips_legal h.journal.in_range refl

    pub skips_more : Stands o (after s time (Pass to)) (j ++ skipping ∷ [])
    skips_more = record {
      journal = record {
        legal = skips_legal;
        in_range = All-push (Fits o) j skipping h.journal.in_range refl;
        no_notes = All-push NoNote j skipping h.journal.no_notes refl;
        closed = skip_goes.run_after;
        skips = omega (arith, furthest_more j skipping, h.journal.skips, is, fits);
        weights = λ c. ap (λ (t : State). t.weight c) (state_snoc o j skipping) ∙ h.journal.weights c;
      };
      given = h.given;
      registered_len = h.registered_len;
      withdrawn_len = h.withdrawn_len;
      few_published = h.few_published;
      joined = subst (λ (t : State). HasMarked t.joined s.registered) (sym (state_snoc o j skipping)) h.joined;
      left = subst (λ (t : State). HasMarked t.left s.withdrawn) (sym (state_snoc o j skipping)) h.left;
    }
