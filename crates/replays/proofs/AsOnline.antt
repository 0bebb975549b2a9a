-- The replay of the ranker `bssi` and the online run over the same input do the same, action by action.
use Rattle.std.proofs.Common.{◌≡◌, ℕ, ◌<◌, List, [], ◌∷◌, ◌++◌, append-nil, append_assoc, length, map, refl, sym, ap, subst, ◌∙◌, arith}
use Rattle.std.proofs.lemmas.List.FromFn.{length-range_with_len}
use Rattle.coflow_units.specs.Flows.{coflow_of, Instance}
use Rattle.coflow_units.proofs.ServedExists.{serve, served_exists}
use Rattle.epochs.specs.declared.action.Action.{Action}
use Rattle.epochs.specs.declared.action.Action.TheVariants.{End, Publish, Register, Run, Skip, TooMany, Withdraw}
use Rattle.epochs.specs.Choice.{IsFirstAction, place}
use Rattle.epochs.specs.Course.{Course, after}
use Rattle.flow_table.specs.Table.{instance_of}
use Rattle.journal.specs.declared.command.Command.{Command}
use Rattle.journal.specs.declared.command.Entry.{Entry}
use Rattle.journal.specs.declared.opening.Opening.{Opening}
use Rattle.journal.specs.Closed.{schedule_of}
use Rattle.journal.specs.Journal.{asked, IsLegal}
use Rattle.journal.proofs.Legal.{legal_front}
use Rattle.online_runs.specs.Deeds.{AreDoneFrom, commands_of, course_from, Deed, IsOnlineRun, IsOnlineSoFar, journal_of, owed_after, PublishesTooMany, time_of}
use Rattle.online_runs.specs.Deeds.{DoesNext as DoesNextOnline}
use Rattle.online_runs.specs.Value.{IsOnlineOf}
use Rattle.online_runs.proofs.Shapes.{none_asked}
use Rattle.online_text.specs.declared.value.Online.{Online}
use Rattle.rankers.specs.Kinds.{bssi}
use Rattle.rankers.specs.Meaning.{after_question}
use Rattle.rankers.specs.Scores.{IsFirstUnfit, IsServedOrder}
use Rattle.rankers.proofs.OneRow.{fits_nowhere_unfit}
use Rattle.replays.specs.declared.rows.Replayed.{Replayed}
use Rattle.replays.specs.declared.rows.Replayed.TheVariants.{Cost, Unfit}
use Rattle.replays.specs.Moments.{AreStepsFrom, DoesNext, first_moment, Input, IsMoment, IsNext, Moment, moment_after, owed_at, Step, time_at}
use Rattle.replays.specs.Replayed.{cost_of_slots, IsInput, IsReplay, IsReplayed, IsTooManyFor, IsUnfitAt}
use Rattle.replays.proofs.OneReplay.{OneAction}
use Rattle.replays.proofs.OnlineAlike.{alike_first, alike_joined, alike_left, IsAlike, opening_of, same_owes, same_time}
use Rattle.replays.proofs.OnlineOrders.{alike_published, answers_bssi, asked_bssi}
use Rattle.replays.proofs.OnlineServing.{alike_served, alike_skipped}

-- ---- actions after which nothing comes

abbrev IsOver : Action → Type 0
IsOver End = Unit {0}
IsOver (TooMany count) = Unit {0}
IsOver action = ⊥

over_asks : (a : Action) → IsOver a → commands_of a ≡ []
over_asks (Register c) over = absurd over
over_asks (Withdraw c) over = absurd over
over_asks Publish over = absurd over
over_asks (Run most) over = absurd over
over_asks (Skip to) over = absurd over
over_asks End over = refl
over_asks (TooMany count) over = refl

over_course : (s : Course) (t : ℕ) (a : Action) → IsOver a → after s t a ≡ s
over_course s t (Register c) over = absurd over
over_course s t (Withdraw c) over = absurd over
over_course s t Publish over = absurd over
over_course s t (Run most) over = absurd over
over_course s t (Skip to) over = absurd over
over_course s t End over = refl
over_course s t (TooMany count) over = refl

over_last : (x : Input) (m : Moment) (a : Action) (next : Moment) → IsOver a → IsNext x m a next → ⊥
over_last x m (Register c) next over is = over
over_last x m (Withdraw c) next over is = over
over_last x m Publish next over is = over
over_last x m (Run most) next over is = over
over_last x m (Skip to) next over is = over
over_last x m End next over is = is
over_last x m (TooMany count) next over is = is

-- ---- one action

alike_next : (x : Input) (input : IsInput x) (m : Moment) (j : List Entry) → IsAlike x m j → (a : Action) (next : Moment) (es : List Entry) → DoesNext x m a → IsNext x m a next →
    map asked es ≡ map (λ (k : Command). (0, k)) (commands_of a) → IsLegal (opening_of x) (j ++ es) → IsAlike x next (j ++ es)
alike_next x input m j h (Register c) next es does is asks legal = subst (λ n. IsAlike x n (j ++ es)) (sym is) (alike_joined x input m j h c does.applies es asks legal)
alike_next x input m j h (Withdraw c) next es does is asks legal =
    subst (λ n. IsAlike x n (j ++ es)) (sym is) (alike_left x input m j h c does.applies.served.is_present es asks legal)
alike_next x input m j h Publish next es does is asks legal = alike_published x input m j h next is es asks legal
alike_next x input m j h (Run most) next es does is asks legal = alike_served x input m j h most next does is es asks legal
alike_next x input m j h (Skip to) next es does is asks legal = alike_skipped x input m j h to next does is es asks legal
alike_next x input m j h End next es does is asks legal = absurd is
alike_next x input m j h (TooMany count) next es does is asks legal = absurd is

course_next : (x : Input) (m : Moment) (a : Action) (next : Moment) → IsNext x m a next → next.course ≡ after m.course (time_at m) a
course_next x m (Register c) next is = ap (λ (n : Moment). n.course) is
course_next x m (Withdraw c) next is = ap (λ (n : Moment). n.course) is
course_next x m Publish next is = ap (λ (n : Moment). n.course) is.next_is
course_next x m (Run most) next is = ap (λ (n : Moment). n.course) is.next_is
course_next x m (Skip to) next is = ap (λ (n : Moment). n.course) is
course_next x m End next is = absurd is
course_next x m (TooMany count) next is = absurd is

-- ---- all actions

-- the online run goes on from this course and this journal by the deeds, and then this action comes next
record GoesOnline (x : Input) (s : Course) (j : List Entry) (ds : List Deed) (b : Action) : Type 0 where
  done : AreDoneFrom (opening_of x) s j ds
  legal : IsLegal (opening_of x) (j ++ journal_of ds)
  ends : IsFirstAction (course_from (opening_of x) s j ds) (time_of (opening_of x) (j ++ journal_of ds)) (owed_after (opening_of x) (j ++ journal_of ds)) b

-- the replay goes on from this moment by the steps, and then this action comes next
record GoesReplayed (x : Input) (m : Moment) (ss : List Step) (a : Action) : Type 0 where
  are : AreStepsFrom x m ss
  ends : DoesNext x (moment_after m ss) a

-- the replay's slots are those of the journal, and the actions after which nothing comes are the same
record EndAlike (x : Input) (m : Moment) (j : List Entry) (a b : Action) : Type 0 where
  slots : m.slots ≡ schedule_of (opening_of x) j
  action : a ≡ b

-- after a deed the online run goes on
after_deed : (x : Input) (s : Course) (j : List Entry) (d : Deed) (ds : List Deed) (b : Action) → GoesOnline x s j (d ∷ ds) b →
    GoesOnline x (after s (time_of (opening_of x) j) d.action) (j ++ d.entries) ds b
after_deed x s j d ds b g =
    let o : Opening = opening_of x in
    let again : j ++ (d.entries ++ journal_of ds) ≡ (j ++ d.entries) ++ journal_of ds = sym (append_assoc j d.entries (journal_of ds)) in
    record {
      done = g.done.1;
      legal = subst (IsLegal o) again g.legal;
      ends = subst (λ l. IsFirstAction (course_from o s j (d ∷ ds)) (time_of o l) (owed_after o l) b) again g.ends;
    }

module _ (one : OneAction) (x : Input) (input : IsInput x) (a b : Action) (over_a : IsOver a) (over_b : IsOver b) where
  abbrev o : Opening
  o = opening_of x

  -- the replay's action is the online run's
  same_action : (m : Moment) (j : List Entry) → IsAlike x m j → (c d : Action) → DoesNext x m c → IsFirstAction m.course (time_of o j) (owed_after o j) d → c ≡ d
  same_action m j h c d does online =
      let here = subst (λ t. IsFirstAction m.course t (owed_after o j) d) (same_time x input m j h) online in
      one m.course (time_at m) (owed_at x m) c d does (subst (λ l. IsFirstAction m.course (time_at m) l d) (same_owes x input m j h) here)

  at_end : (m : Moment) (j : List Entry) → GoesOnline x m.course j [] b → IsFirstAction m.course (time_of o j) (owed_after o j) b
  at_end m j g = subst (λ l. IsFirstAction m.course (time_of o l) (owed_after o l) b) (append-nil j) g.ends

  regroup : (m : Moment) (j es more : List Entry) → EndAlike x m ((j ++ es) ++ more) a b → EndAlike x m (j ++ (es ++ more)) a b
  regroup m j es more e = subst (λ l. EndAlike x m l a b) (append_assoc j es more) e

  together : (m : Moment) (j : List Entry) (ss : List Step) (ds : List Deed) → IsAlike x m j → GoesReplayed x m ss a → GoesOnline x m.course j ds b →
      EndAlike x (moment_after m ss) (j ++ journal_of ds) a b
  together m j [] [] h r g = record {
    slots = h.slots ∙ ap (schedule_of o) (sym (append-nil j));
    action = same_action m j h a b r.ends (at_end m j g);
  }
  together m j (s ∷ ss) [] h r g =
      let same = same_action m j h s.action b r.are.0 (at_end m j g) in
      absurd (over_last x m b s.next over_b (subst (λ c. IsNext x m c s.next) same r.are.1))
  together m j [] (d ∷ ds) h r g =
      let same : d.action ≡ a = sym (same_action m j h a d.action r.ends g.done.0.first) in
      let none : d.entries ≡ [] =
      none_asked d.entries (g.done.0.asks ∙ ap (λ c. map (λ (k : Command). (0, k)) (commands_of c)) same ∙ ap (map (λ (k : Command). (0, k))) (over_asks a over_a)) in
      let still : j ++ d.entries ≡ j = ap (λ l. j ++ l) none ∙ append-nil j in
      let course : after m.course (time_of o j) d.action ≡ m.course = ap (after m.course (time_of o j)) same ∙ over_course m.course (time_of o j) a over_a in
      let on = subst (λ c. GoesOnline x c (j ++ d.entries) ds b) course (after_deed x m.course j d ds b g) in
      regroup m j d.entries (journal_of ds) (together m (j ++ d.entries) [] ds (subst (IsAlike x m) (sym still) h) r on)
  together m j (s ∷ ss) (d ∷ ds) h r g =
      let same : d.action ≡ s.action = sym (same_action m j h s.action d.action r.are.0 g.done.0.first) in
      let on = after_deed x m.course j d ds b g in
      let front = legal_front o [] (j ++ d.entries) (journal_of ds) on.legal in
      let asks = g.done.0.asks ∙ ap (λ c. map (λ (k : Command). (0, k)) (commands_of c)) same in
      let alike = alike_next x input m j h s.action s.next d.entries r.are.0 r.are.1 asks front in
      let course : after m.course (time_of o j) d.action ≡ s.next.course =
      ap (λ t. after m.course t d.action) (same_time x input m j h) ∙ ap (after m.course (time_at m)) same ∙ sym (course_next x m s.action s.next r.are.1) in
      let on' = subst (λ c. GoesOnline x c (j ++ d.entries) ds b) course on in
      let r' : GoesReplayed x s.next ss a = record { are = r.are.2; ends = r.ends } in
      regroup (moment_after s.next ss) j d.entries (journal_of ds) (together s.next (j ++ d.entries) ss ds alike r' on')

  both_end : (m : Moment) (ds : List Deed) → IsMoment x bssi m → DoesNext x m a → IsOnlineSoFar o x.arrivals x.every ds → DoesNextOnline o x.arrivals x.every ds b →
      EndAlike x m (journal_of ds) a b
  both_end m ds is does so_far ends =
      let r : GoesReplayed x (first_moment x bssi) is.steps a = record { are = is.are; ends = subst (λ n. DoesNext x n a) is.last does } in
      let g : GoesOnline x (first_moment x bssi).course [] ds b = record { done = so_far.done; legal = so_far.legal; ends = ends } in
      subst (λ n. EndAlike x n (journal_of ds) a b) (sym is.last) (together (first_moment x bssi) [] is.steps ds (alike_first x input) r g)

-- ---- each answer is an order

ranker_next : (x : Input) (m : Moment) (a : Action) (next : Moment) → m.ranker ≡ bssi → IsNext x m a next → next.ranker ≡ bssi
ranker_next x m (Register c) next e is = ap (λ (n : Moment). n.ranker) is ∙ e
ranker_next x m (Withdraw c) next e is = ap (λ (n : Moment). n.ranker) is ∙ e
ranker_next x m Publish next e is = ap (λ (n : Moment). n.ranker) is.next_is ∙ ap (λ r. after_question r is.facts) (asked_bssi x m e)
ranker_next x m (Run most) next e is = ap (λ (n : Moment). n.ranker) is.next_is ∙ e
ranker_next x m (Skip to) next e is = ap (λ (n : Moment). n.ranker) is ∙ e
ranker_next x m End next e is = absurd is
ranker_next x m (TooMany count) next e is = absurd is

ranker_along : (x : Input) (m : Moment) (ss : List Step) → m.ranker ≡ bssi → AreStepsFrom x m ss → (moment_after m ss).ranker ≡ bssi
ranker_along x m [] e are = e
ranker_along x m (s ∷ ss) e are = ranker_along x s.next ss (ranker_next x m s.action s.next e are.1) are.2

never_unfit : (x : Input) (epoch at : ℕ) → IsInput x → IsUnfitAt x bssi epoch at → ⊥
never_unfit x epoch at input u =
    let facts = u.facts in
    let hold = u.asked.facts_hold in
    let ranker : u.moment.ranker ≡ bssi =
    ap (λ (n : Moment). n.ranker) u.reached.last ∙ ranker_along x (first_moment x bssi) u.reached.steps refl u.reached.are in
    let unfit : IsFirstUnfit (length x.table.ids) facts.order at =
    subst (λ l. IsFirstUnfit (length x.table.ids) l at) (answers_bssi x u.moment facts ranker) u.place_is in
    let count : length facts.order ≡ length x.table.ids = hold.order_len ∙ ap (λ (l : List ℕ). length l) u.asked.facts_are.weights_are ∙ input.each_weight in
    let i : Instance = instance_of x.table x.weights in
    let all : length i.coflows ≡ length x.table.ids = length-range_with_len 0 (length x.table.ids) in
    let served : IsServedOrder i facts.order (serve i.flows facts.order) = record {
      count = count ∙ sym all;
      permutation = hold.order_is;
      served = served_exists i.flows facts.order (λ f lt some.
          let low : coflow_of i.flows f < length x.table.ids = input.table.coflow f record { coflow = 0; ingress = 0; egress = 0; units = 0 } lt in
          hold.order_is.all (coflow_of i.flows f) (omega (arith, low, count)));
    } in
    fits_nowhere_unfit i facts.order (serve i.flows facts.order) at served (subst (λ n. IsFirstUnfit n facts.order at) (sym all) unfit)

-- ---- what both come to

pub same_schedule : OneAction → (x : Input) (journal : List Entry) (slots : List (List ℕ)) → IsInput x → IsOnlineRun (opening_of x) x.arrivals x.every journal →
    IsReplay x bssi slots → slots ≡ schedule_of (opening_of x) journal
same_schedule one x journal slots input run replay =
    let e = both_end one x input End End tt tt replay.moment run.deeds replay.reached replay.ends run.so_far run.ends in
    replay.slots_are ∙ e.slots ∙ ap (schedule_of (opening_of x)) (sym run.journal_is)

pub same_cost : OneAction → (x : Input) (online : Online) (result : Replayed) → IsInput x → IsOnlineOf (opening_of x) x.arrivals x.every online → IsReplayed x bssi result →
    result ≡ Cost online.cost
same_cost one x online (Cost total) input is (slots, replay, total_is) =
    ap Cost (total_is ∙ ap (cost_of_slots x) (same_schedule one x is.journal slots input is.run replay) ∙ sym is.cost_is)
same_cost one x online (Unfit epoch at) input is unfit = absurd (never_unfit x epoch at input unfit)

pub never_ends_online : OneAction → (x : Input) (journal : List Entry) (count : ℕ) → IsInput x → IsTooManyFor x bssi count →
    IsOnlineRun (opening_of x) x.arrivals x.every journal → ⊥
never_ends_online one x journal count input t run =
    let e = both_end one x input (TooMany count) End tt tt t.moment run.deeds t.reached t.next run.so_far run.ends in
    omega (arith, ap place e.action)

pub never_replayed : OneAction → (x : Input) (result : Replayed) (count : ℕ) → IsInput x → PublishesTooMany (opening_of x) x.arrivals x.every count → IsReplayed x bssi result → ⊥
never_replayed one x (Cost total) count input t (slots, replay, is) =
    let e = both_end one x input End (TooMany count) tt tt replay.moment t.deeds replay.reached replay.ends t.so_far t.next in
    omega (arith, ap place e.action)
never_replayed one x (Unfit epoch at) count input t unfit = never_unfit x epoch at input unfit
