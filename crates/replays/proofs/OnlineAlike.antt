-- A moment of a replay beside the journal of an online run that did the same: what they have in common, at first and once a
-- coflow joined or left.
use Rattle.std.proofs.Common.{◌≡◌, ℕ, ◌+◌, ◌-◌, ◌<◌, true, false, List, [], ◌∷◌, ◌++◌, Contains, None, length, map, refl, sym, ap, subst, ◌∙◌, arith}
use Rattle.std.specs.Prelude.{◌&&◌, ◌==◌, if◌then◌else◌, not, slice_index, slice_set}
use Rattle.std.specs.List.{filter, range_with_len}
use Rattle.std.proofs.lemmas.Bool.{and_from, both_ways, false_from_ne_true, lt-ltb, not_from_false}
use Rattle.std.proofs.lemmas.List.Elements.{All-nil, All-push}
use Rattle.coflow_units.specs.Flows.{coflow_of, units_of}
use Rattle.coflow_units.specs.Schedule.{times}
use Rattle.coflow_units.specs.Served.{left_after}
use Rattle.coflow_units.proofs.Sums.{any_has, nothing_in, sum_same}
use Rattle.epochs.specs.Choice.{Registers}
use Rattle.epochs.specs.Course.{IsPresent, is_marked}
use Rattle.epochs.proofs.Actions.{marked_below, stays_marked}
use Rattle.journal.specs.declared.command.Command.TheVariants.{Register, Withdraw}
use Rattle.journal.specs.declared.command.Entry.{Entry}
use Rattle.journal.specs.declared.command.Reply.{Reply}
use Rattle.journal.specs.declared.command.Reply.TheVariants.{Already, Joined, Left, NotHere}
use Rattle.journal.specs.declared.opening.Opening.{Opening}
use Rattle.journal.specs.Answer.{in_range}
use Rattle.journal.specs.Closed.{schedule_of}
use Rattle.journal.specs.Fold.{state_of}
use Rattle.journal.specs.Journal.{asked, entry, IsLegal}
use Rattle.journal.specs.Line.{line, newest}
use Rattle.journal.specs.Sound.{InRange}
use Rattle.journal.specs.State.{has, is_present, owed, State}
use Rattle.journal.proofs.Between.{answered}
use Rattle.journal.proofs.Growth.{state_snoc}
use Rattle.journal.proofs.Leaving.{leaves_push}
use Rattle.journal.proofs.Ranges.{range_same}
use Rattle.journal.proofs.Schedules.{schedule_length}
use Rattle.journal.proofs.ScheduleTimes.{times_is_sent}
use Rattle.online_runs.specs.Deeds.{coflow_owes, owed_after, time_of}
use Rattle.online_runs.specs.Input.{online_opening}
use Rattle.online_runs.proofs.Marks.{HasMarked, marks_more, marks_none}
use Rattle.online_runs.proofs.Shapes.{one_asked}
use Rattle.rankers.specs.Kinds.{bssi}
use Rattle.replays.specs.Kept.{Holds}
use Rattle.replays.specs.Moments.{Input, Moment, first_moment, is_here, joined_at, left_the_line, owed_at, owes, time_at}
use Rattle.replays.specs.Replayed.{IsInput}
use Rattle.replays.proofs.Holding.{holds_first, holds_joined, holds_left}
use Rattle.replays.proofs.MasterLines.{joined_line, left_line}

-- the opening of the online run over the same table and weights
abbrev pub opening_of : Input → Opening
opening_of x = online_opening x.table x.weights

-- the state after the journal
abbrev pub state_at : Input → List Entry → State
state_at x j = state_of (opening_of x) j

abbrev pub Fits : Input → Entry → Type 0
Fits x e = in_range (opening_of x) e.command ≡ true

-- No run is open, and the journal has come to the same slots, the same coflows that joined and left, and the same line; the
-- orders published name coflows that joined.
pub record IsAlike (x : Input) (m : Moment) (j : List Entry) : Type 0 where
  pub holds : Holds x m
  pub ranker : m.ranker ≡ bssi
  pub legal : IsLegal (opening_of x) j
  pub in_range : InRange (opening_of x) j
  pub closed : (state_at x j).run ≡ None
  pub weights : (c : ℕ) → (state_at x j).weight c ≡ slice_index x.weights c
  pub slots : m.slots ≡ schedule_of (opening_of x) j
  pub joined : HasMarked (state_at x j).joined m.course.registered
  pub left : HasMarked (state_at x j).left m.course.withdrawn
  pub line_is : line (state_at x j) ≡ m.line
  pub ranked : (c : ℕ) → Contains (newest (state_at x j)) c → is_marked m.course.registered c ≡ true

pub alike_first : (x : Input) → IsInput x → IsAlike x (first_moment x bssi) []
alike_first x input = record {
  holds = holds_first x bssi input;
  ranker = refl;
  legal = tt;
  in_range = All-nil (Fits x);
  closed = refl;
  weights = λ c. refl;
  slots = refl;
  joined = marks_none (length x.arrivals);
  left = marks_none (length x.arrivals);
  line_is = refl;
  ranked = λ c has'. absurd (nothing_in c has');
}

module _ (x : Input) (input : IsInput x) (m : Moment) (j : List Entry) (h : IsAlike x m j) where
  abbrev o : Opening
  o = opening_of x

  abbrev now : State
  now = state_at x j

  -- ---- the time, and what is owed

  pub next_slot : now.next ≡ time_at m + 1
  next_slot = omega (arith, schedule_length o j h.legal h.in_range, ap (λ (l : List (List ℕ)). length l) h.slots)

  pub same_time : time_of o j ≡ time_at m
  same_time = omega (arith, next_slot)

  pub same_owed : (f : ℕ) → owed o now f ≡ left_after x.table.flows m.slots f
  same_owed f = ap (λ n. units_of x.table.flows f - n) (sym (times_is_sent o j f h.legal h.in_range) ∙ ap (λ l. times l f) (sym h.slots))

  pub same_owes : owed_after o j ≡ owed_at x m
  same_owes = range_same (coflow_owes o now) (owes x m) 0 (length x.table.ids) (λ c low high.
      sum_same (λ f. if coflow_of x.table.flows f == c then owed o now f else 0)
      (λ f. if coflow_of x.table.flows f == c then left_after x.table.flows m.slots f else 0) (range_with_len 0 (length x.table.flows))
      (λ f in'. ap {B = ℕ} (λ n. if coflow_of x.table.flows f == c then n else 0) (same_owed f)))

  -- ---- who is present

  pub same_present : (c : ℕ) → is_present now c ≡ is_here m c
  same_present c = ap (λ b. b && not (has now.left c)) (h.joined c) ∙ ap (λ b. is_marked m.course.registered c && not b) (h.left c)

  pub below : (c : ℕ) → is_marked m.course.registered c ≡ true → c < length x.table.ids
  below c is = omega (arith, marked_below m.course.registered c is, h.holds.registered)

  -- ---- a coflow joins

  module _ (c : ℕ) (does : Registers m.course (time_at m) c) (es : List Entry) (asks : map asked es ≡ (0, Register c) ∷ []) (legal : IsLegal o (j ++ es)) where
    abbrev joining : Entry
    joining = entry 0 (Register c) Joined

    join_low : c < length x.table.ids
    join_low = omega (arith, does.waits.coflow_in, ap (λ (l : List ℕ). length l) h.holds.arrivals_are, input.each_arrival)

    joins_by : es ≡ joining ∷ []
    joins_by =
        let (r, is) = one_asked es (Register c) asks in
        let reply : r ≡ Joined =
        answered o j [] (entry 0 (Register c) r) (subst (λ l. IsLegal o (j ++ l)) is legal) ∙ ap {B = Reply} (λ b. if b then Already else Joined) (h.joined c ∙ does.waits.waits) in
        is ∙ ap (λ x. entry 0 (Register c) x ∷ []) reply

    unranked : has (newest now) c ≡ false
    unranked = false_from_ne_true (has (newest now) c)
        (λ is. both_ways (is_marked m.course.registered c) does.waits.waits (h.ranked c (any_has (newest now) c is)))

    not_gone : has now.left c ≡ false
    not_gone = h.left c ∙ false_from_ne_true (is_marked m.course.withdrawn c) (λ is. both_ways (is_marked m.course.registered c) does.waits.waits (h.holds.gone c is))

    joins_so : IsAlike x (joined_at m c) (j ++ joining ∷ [])
    joins_so =
        let made = state_snoc o j joining in
        let leaves = leaves_push o j joining refl in
        record {
          holds = holds_joined x m c h.holds input does;
          ranker = h.ranker;
          legal = subst (λ l. IsLegal o (j ++ l)) joins_by legal;
          in_range = All-push (Fits x) j joining h.in_range (lt-ltb c (length x.table.ids) join_low);
          closed = leaves.run ∙ h.closed;
          weights = λ d. ap (λ (t : State). t.weight d) made ∙ h.weights d;
          slots = h.slots ∙ sym leaves.slots.schedule;
          joined = subst (λ (t : State). HasMarked t.joined (slice_set m.course.registered c true)) (sym made)
              (marks_more now.joined m.course.registered c (omega (arith, join_low, h.holds.registered)) h.joined);
          left = subst (λ (t : State). HasMarked t.left m.course.withdrawn) (sym made) h.left;
          line_is = ap line made ∙ joined_line now.joined now.left now.published c unranked not_gone ∙ ap (λ l. l ++ c ∷ []) h.line_is;
          ranked = λ d has'. stays_marked m.course.registered c d (h.ranked d (subst (λ (t : State). Contains (newest t) d) made has'));
        }

    pub alike_joined : IsAlike x (joined_at m c) (j ++ es)
    alike_joined = subst (λ l. IsAlike x (joined_at m c) (j ++ l)) (sym joins_by) joins_so

  -- ---- a coflow leaves

  module _ (c : ℕ) (present : IsPresent m.course.registered m.course.withdrawn c) (es : List Entry) (asks : map asked es ≡ (0, Withdraw c) ∷ []) (legal : IsLegal o (j ++ es)) where
    abbrev leaving : Entry
    leaving = entry 0 (Withdraw c) Left

    leaves_by : es ≡ leaving ∷ []
    leaves_by =
        let (r, is) = one_asked es (Withdraw c) asks in
        let stands : is_present now c ≡ true =
        same_present c ∙ and_from (is_marked m.course.registered c) (not (is_marked m.course.withdrawn c)) present.joined
        (not_from_false (is_marked m.course.withdrawn c) present.stays) in
        let reply : r ≡ Left =
        answered o j [] (entry 0 (Withdraw c) r) (subst (λ l. IsLegal o (j ++ l)) is legal) ∙ ap {B = Reply} (λ b. if b then Left else NotHere) stands in
        is ∙ ap (λ x. entry 0 (Withdraw c) x ∷ []) reply

    leaves_so : IsAlike x (left_the_line m c) (j ++ leaving ∷ [])
    leaves_so =
        let made = state_snoc o j leaving in
        let leaves = leaves_push o j leaving refl in
        let low = below c present.joined in
        record {
          holds = holds_left x m c h.holds present.joined;
          ranker = h.ranker;
          legal = subst (λ l. IsLegal o (j ++ l)) leaves_by legal;
          in_range = All-push (Fits x) j leaving h.in_range (lt-ltb c (length x.table.ids) low);
          closed = leaves.run ∙ h.closed;
          weights = λ d. ap (λ (t : State). t.weight d) made ∙ h.weights d;
          slots = h.slots ∙ sym leaves.slots.schedule;
          joined = subst (λ (t : State). HasMarked t.joined m.course.registered) (sym made) h.joined;
          left = subst (λ (t : State). HasMarked t.left (slice_set m.course.withdrawn c true)) (sym made)
              (marks_more now.left m.course.withdrawn c (omega (arith, low, h.holds.withdrawn)) h.left);
          line_is = ap line made ∙ left_line now.joined now.left now.published c ∙ ap (filter (λ k. not (k == c))) h.line_is;
          ranked = λ d has'. h.ranked d (subst (λ (t : State). Contains (newest t) d) made has');
        }

    pub alike_left : IsAlike x (left_the_line m c) (j ++ es)
    alike_left = subst (λ l. IsAlike x (left_the_line m c) (j ++ l)) (sym leaves_by) leaves_so
