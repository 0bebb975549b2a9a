-- An order is published in a replay of the ranker `bssi` and in an online run alike.
use Rattle.std.proofs.Common.{◌≡◌, ℕ, ◌+◌, ◌<◌, ◌≤◌, inl, inr, Bool, true, false, List, [], ◌∷◌, ◌++◌, Contains, get_or, length, map, refl, replicate, sym, ap, subst, ◌∙◌, arith}
use Rattle.std.specs.Prelude.{◌&&◌, ◌==◌, if◌then◌else◌, not, slice_index, sum_by}
use Rattle.std.specs.List.{filter, range_with_len}
use Rattle.std.proofs.lemmas.Bool.{and_parts, and_right, both_ways, cases_Bool, eqb-true, not_from_false}
use Rattle.std.proofs.lemmas.List.{length-replicate}
use Rattle.std.proofs.lemmas.List.Elements.{All-push, All-replicate}
use Rattle.coflow_units.specs.declared.fabric.Flow.{Flow}
use Rattle.coflow_units.specs.declared.fabric.Port.{Port}
use Rattle.coflow_units.specs.declared.limits.TheConstants.{MAX_WEIGHT}
use Rattle.coflow_units.specs.Certificate.{order_of}
use Rattle.coflow_units.specs.Completion.{completion}
use Rattle.coflow_units.specs.Flows.{coflow_of, Instance, IsInstance, uses, with_units, with_units_from}
use Rattle.coflow_units.specs.Load.{load, loads}
use Rattle.coflow_units.specs.Ordering.{IsOrdering}
use Rattle.coflow_units.proofs.Lists.{by_number, filter_in, keeps, number_below, number_in}
use Rattle.coflow_units.proofs.Numbers.{zero_or_more}
use Rattle.coflow_units.proofs.Sums.{any_in, any_not, some_term}
use Rattle.coflow_units.proofs.WhatIsLeft.{left_flow, same_length}
use Rattle.coflow_units.specs.Served.{left_after}
use Rattle.epochs.proofs.Tallying.{some_share}
use Rattle.epochs.specs.Course.{is_marked}
use Rattle.journal.specs.declared.command.Command.TheVariants.{Publish}
use Rattle.journal.specs.declared.command.Entry.{Entry}
use Rattle.journal.specs.declared.command.Reply.TheVariants.{StillOpen, Version}
use Rattle.journal.specs.declared.opening.Opening.{Opening}
use Rattle.journal.specs.Answer.{on_run}
use Rattle.journal.specs.Chosen.{the_order}
use Rattle.journal.specs.Journal.{asked, entry, IsLegal}
use Rattle.journal.specs.Line.{line, newest, version}
use Rattle.journal.specs.State.{has, IsOpening, is_present, owed, present, State, what_is_left}
use Rattle.journal.proofs.Between.{answered}
use Rattle.journal.proofs.Growth.{state_snoc}
use Rattle.journal.proofs.Instances.{left_is_instance, only_ordering}
use Rattle.journal.proofs.Leaving.{leaves_push}
use Rattle.online_runs.proofs.Marks.{HasMarked}
use Rattle.online_runs.proofs.Shapes.{one_asked}
use Rattle.rankers.specs.FactsTold.{FactsTold, IsBssiOrder, with_left}
use Rattle.rankers.specs.Kinds.{bssi}
use Rattle.rankers.specs.Meaning.{after_notes, after_question, answer_of}
use Rattle.replays.specs.Kept.{Holds}
use Rattle.replays.specs.Moments.{Input, IsPublished, Moment, asked_at, is_here, left_here, news, published_at}
use Rattle.replays.specs.Replayed.{IsInput}
use Rattle.replays.proofs.Holding.{holds_published}
use Rattle.replays.proofs.Marks.{here_from, here_parts}
use Rattle.replays.proofs.MasterLines.{newest_made, published_line}
use Rattle.replays.proofs.OnlineAlike.{Fits, IsAlike, below, opening_of, same_owed, same_present, state_at}
use Rattle.replays.proofs.OrderingsOfPresent.{order_present, present_in, present_ordering}

-- ---- the ranker

notes_keep : (end : ℕ → ℕ) (cs : List ℕ) → after_notes bssi end cs ≡ bssi
notes_keep end [] = refl
notes_keep end (c ∷ cs) = notes_keep end cs

-- it is asked as it was at first
pub asked_bssi : (x : Input) (m : Moment) → m.ranker ≡ bssi → asked_at x m ≡ bssi
asked_bssi x m is =
    let end = completion x.table.flows m.slots in
    elim (cases_Bool (m.course.published == 0)) [
      | inl none ↦ ap (λ b. if b then m.ranker else after_notes m.ranker end (news x m)) none ∙ is
      | inr some ↦ ap (λ b. if b then m.ranker else after_notes m.ranker end (news x m)) some ∙ ap (λ r. after_notes r end (news x m)) is ∙ notes_keep end (news x m)
    ]

pub answers_bssi : (x : Input) (m : Moment) (facts : FactsTold) → m.ranker ≡ bssi → answer_of (asked_at x m) facts ≡ facts.order
answers_bssi x m facts is = ap (λ r. answer_of r facts) (asked_bssi x m is)

-- ---- units and loads

same_units : (k : ℕ) (u v : ℕ → ℕ) (xs : List Flow) → ((f : ℕ) → u f ≡ v f) → with_units_from k u xs ≡ with_units_from k v xs
same_units k u v [] same = refl
same_units k u v (x ∷ xs) same =
    ap (λ n. record { coflow = x.coflow; ingress = x.ingress; egress = x.egress; units = n } ∷ with_units_from (k + 1) u xs) (same k) ∙
    ap (λ l. record { coflow = x.coflow; ingress = x.ingress; egress = x.egress; units = v k } ∷ l) (same_units (k + 1) u v xs same)

abbrev no_flow : Flow
no_flow = record { coflow = 0; ingress = 0; egress = 0; units = 0 }

-- a coflow none of whose flows has units has no load
idle_load : (flows : List Flow) (here : ℕ → Bool) (units : ℕ → ℕ) → ((f : ℕ) → here (coflow_of flows f) ≡ false → units f ≡ 0) → (c : ℕ) → here c ≡ false → (port : Port) →
    load (with_units units flows) c port ≡ 0
idle_load flows here units none c away port =
    let all = with_units units flows in
    let share = λ (y : Flow). if loads c port y then y.units else 0 in
    elim (zero_or_more (sum_by (λ f. share (get_or all f no_flow)) (range_with_len 0 (length all)))) [
      | inl nought ↦ by_number share no_flow all ∙ nought
      | inr some ↦
          let (f, in', more) = some_term (λ f. share (get_or all f no_flow)) (range_with_len 0 (length all)) some in
          let low : f < length flows = omega (arith, number_below 0 (length all) f in', same_length units flows) in
          let own : Flow = record { coflow = coflow_of flows f; ingress = (get_or flows f no_flow).ingress; egress = (get_or flows f no_flow).egress; units = units f } in
          let here' : 0 < share own = subst (λ y. 0 < share y) (left_flow units flows f no_flow low) more in
          let (is, left) = some_share (loads c port own) (units f) here' in
          let of : coflow_of flows f ≡ c = eqb-true (coflow_of flows f) c (and_parts (coflow_of flows f == c) (uses port own) is).0 in
          absurd (omega (arith, left, none f (ap here of ∙ away)))
    ]

module _ (x : Input) (input : IsInput x) (m : Moment) (j : List Entry) (h : IsAlike x m j) where
  abbrev o : Opening
  o = opening_of x

  abbrev now : State
  now = state_at x j

  -- what is left after the journal
  abbrev rest : Instance
  rest = what_is_left o now

  has_present : (c : ℕ) → has (present o now) c ≡ is_here m c
  has_present c = elim (cases_Bool (is_here m c)) [
    | inl yes' ↦
        let low = below x input m j h c (here_parts m c yes').0 in
        any_in (present o now) c
        (keeps (is_present now) (range_with_len 0 (length x.table.ids)) c
        (number_in 0 (length x.table.ids) c (omega arith) (omega (arith, low))) (same_present x input m j h c ∙ yes')) ∙
        sym yes'
    | inr not' ↦
        any_not (present o now) c
        (λ in'. both_ways (is_here m c) not' (sym (same_present x input m j h c) ∙ (filter_in (is_present now) (range_with_len 0 (length x.table.ids)) c in').1)) ∙
        sym not'
  ]

  left_same : (f : ℕ) → left_here x m f ≡ (if has (present o now) (coflow_of x.table.flows f) then owed o now f else 0)
  left_same f =
      ap {B = ℕ} (λ n. if is_here m (coflow_of x.table.flows f) then n else 0) (sym (same_owed x input m j h f)) ∙
      ap {B = ℕ} (λ b. if b then owed o now f else 0) (sym (has_present (coflow_of x.table.flows f)))

  none_left : (f : ℕ) → is_here m (coflow_of x.table.flows f) ≡ false → left_here x m f ≡ 0
  none_left f away = ap {B = ℕ} (λ b. if b then left_after x.table.flows m.slots f else 0) away

  -- the same table, where each coflow has the weight 1
  abbrev plain : Opening
  plain = record { table = x.table; weights = replicate (length x.table.ids) 1; limit = 1 }

  plain_opening : IsOpening plain
  plain_opening = record {
    table = input.table;
    each_weight = length-replicate (length x.table.ids) 1;
    weight = All-replicate (λ w. (1 ≤ w) × (w ≤ MAX_WEIGHT)) (length x.table.ids) 1 (omega arith, omega arith);
    limit = omega arith;
    few_entries = omega arith;
  }

  is_instance : IsInstance rest
  is_instance = left_is_instance plain now plain_opening

  pub order_made_alike : (order : List ℕ) → IsBssiOrder (with_left x.table (left_here x m)) x.weights order → the_order rest ≡ filter (is_here m) order
  order_made_alike order is =
      let here = is_here m in
      let all = range_with_len 0 (length x.table.ids) in
      let kept = present_in here is.entries in
      let flows = with_units (left_here x m) x.table.flows in
      let parts : (c : ℕ) → Contains (present o now) c → Contains all c × (here c ≡ true) = λ c in'.
      let (there, stands) = filter_in (is_present now) all c in' in
      (there, sym (same_present x input m j h c) ∙ stands) in
      let whole = λ (c : ℕ) (there : Contains all c) (stands : here c ≡ true). keeps (is_present now) all c there (same_present x input m j h c ∙ stands) in
      let ordering : IsOrdering (record { coflows = present o now; weight = now.weight; ports = x.table.ports; flows = flows }) kept =
      present_ordering flows here (idle_load x.table.flows here (left_here x m) none_left) (λ c. slice_index x.weights c) now.weight x.table.ports (λ c. sym (h.weights c)) all
      (present o now) is.entries parts whole is.ordering in
      let units = λ (f : ℕ). if has (present o now) (coflow_of x.table.flows f) then owed o now f else 0 in
      let same : flows ≡ with_units units x.table.flows = same_units 0 (left_here x m) units x.table.flows left_same in
      let ordering' : IsOrdering rest kept =
      subst (λ (fs : List Flow). IsOrdering (record { coflows = present o now; weight = now.weight; ports = x.table.ports; flows = fs }) kept) same ordering in
      ap order_of (sym (only_ordering rest kept is_instance ordering')) ∙ order_present here is.entries ∙ ap (filter here) (sym is.order_is)

  module _ (next : Moment) (is : IsPublished x m next) (es : List Entry) (asks : map asked es ≡ (0, Publish) ∷ []) (legal : IsLegal o (j ++ es)) where
    abbrev publishing : Entry
    publishing = entry 0 Publish (Version (version now + 1))

    abbrev then' : Moment
    then' = published_at x m is.facts

    publishes_by : es ≡ publishing ∷ []
    publishes_by =
        let (r, shape) = one_asked es Publish asks in
        let reply : r ≡ Version (version now + 1) =
        answered o j [] (entry 0 Publish r) (subst (λ l. IsLegal o (j ++ l)) shape legal) ∙ ap (λ x. on_run x (λ r. StillOpen r.first) (Version (version now + 1))) h.closed in
        shape ∙ ap (λ x. entry 0 Publish x ∷ []) reply

    holds_then : Holds x then'
    holds_then = subst (Holds x) is.next_is (holds_published x m next h.holds is)

    order_is : the_order rest ≡ then'.line
    order_is = order_made_alike is.facts.order is.asked.facts_are.order_is ∙ ap (filter (is_here m)) (sym (answers_bssi x m is.facts h.ranker))

    of_order : (c : ℕ) → Contains (the_order rest) c → is_here m c ≡ true
    of_order c in' = holds_then.stands c (subst (λ l. Contains l c) order_is in')

    ranked_or_gone : (c : ℕ) → Contains now.joined c → (not (has (the_order rest) c) && not (has now.left c)) ≡ false
    ranked_or_gone c joined = elim (cases_Bool (is_here m c)) [
      | inl yes' ↦
          ap (λ b. not b && not (has now.left c)) (any_in (the_order rest) c (subst (λ l. Contains l c) (sym order_is) (holds_then.lined c yes')))
      | inr not' ↦
          let marked : is_marked m.course.registered c ≡ true = sym (h.joined c) ∙ any_in now.joined c joined in
          elim (cases_Bool (is_marked m.course.withdrawn c)) [
            | inl gone ↦ ap (λ b. not (has (the_order rest) c) && not b) (h.left c ∙ gone) ∙ and_right (not (has (the_order rest) c)) false refl
            | inr stays ↦ absurd (both_ways (is_here m c) not' (here_from m c marked stays))
          ]
    ]

    publishes_so : IsAlike x then' (j ++ publishing ∷ [])
    publishes_so =
        let made = state_snoc o j publishing in
        let leaves = leaves_push o j publishing refl in
        let stays = λ (c : ℕ) (in' : Contains (the_order rest) c). not_from_false (has now.left c) (h.left c ∙ (here_parts m c (of_order c in')).1) in
        record {
          holds = holds_then;
          ranker = ap (λ r. after_question r is.facts) (asked_bssi x m h.ranker);
          legal = subst (λ l. IsLegal o (j ++ l)) publishes_by legal;
          in_range = All-push (Fits x) j publishing h.in_range refl;
          closed = leaves.run ∙ h.closed;
          weights = λ d. ap (λ (t : State). t.weight d) made ∙ h.weights d;
          slots = h.slots ∙ sym leaves.slots.schedule;
          joined = subst (λ (t : State). HasMarked t.joined m.course.registered) (sym made) h.joined;
          left = subst (λ (t : State). HasMarked t.left m.course.withdrawn) (sym made) h.left;
          line_is = ap line made ∙ published_line now.joined now.left now.published rest stays ranked_or_gone ∙ order_is;
          ranked = λ d has'.
              let in' : Contains (the_order rest) d =
              subst (λ l. Contains l d) (newest_made now.published rest) (subst (λ (t : State). Contains (newest t) d) made has') in
              (here_parts m d (of_order d in')).0;
        }

    pub alike_published : IsAlike x next (j ++ es)
    alike_published = subst (λ n. IsAlike x n (j ++ es)) (sym is.next_is) (subst (λ l. IsAlike x then' (j ++ l)) (sym publishes_by) publishes_so)
