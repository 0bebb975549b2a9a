-- There is one replay of a ranker: the actions leave no choice, and each has one moment after it.
use Rattle.std.proofs.Common.{◌≡◌, ℕ, ◌+◌, List, [], ◌∷◌, length, refl, sym, ap, subst, ◌∙◌, arith}
use Rattle.std.specs.List.{range_with_len}
use Rattle.std.proofs.lemmas.List.FromFn.{length-range_with_len}
use Rattle.coflow_units.specs.declared.limits.TheConstants.{MAX_PUBLISHINGS}
use Rattle.coflow_units.specs.Flows.{Instance}
use Rattle.coflow_units.specs.Grants.{IsRunLength}
use Rattle.coflow_units.specs.Served.{left_after}
use Rattle.coflow_units.proofs.GrantLaws.{one_grants}
use Rattle.coflow_units.proofs.RunLengths.{one_run_length}
use Rattle.coflow_units.proofs.ServedExists.{serve, served_exists}
use Rattle.class_rates.specs.Classes.{IsPermutation}
use Rattle.epochs.specs.declared.action.Action.{Action}
use Rattle.epochs.specs.declared.action.Action.TheVariants.{End, Publish, Register, Run, Skip, TooMany, Withdraw}
use Rattle.epochs.specs.Choice.{IsFirstAction, place}
use Rattle.epochs.specs.Course.{Course}
use Rattle.rankers.specs.FactsTold.{FactsTold}
use Rattle.rankers.specs.Meaning.{Meaning, answer_of}
use Rattle.rankers.specs.declared.row.Scored.TheVariants.{Unfit as UnfitAt}
use Rattle.rankers.specs.Scores.{IsFirstUnfit, IsServedOrder}
use Rattle.rankers.proofs.OneRow.{fits_nowhere_unfit, score_one}
use Rattle.replays.specs.declared.rows.Replayed.{Replayed}
use Rattle.replays.specs.declared.rows.Replayed.TheVariants.{Cost, Unfit}
use Rattle.replays.specs.Moments.{AreStepsFrom, DoesNext, Input, IsAsked, IsMoment, IsNext, IsPublished, IsServedFor, Moment, Step, asked_at, first_moment}
use Rattle.replays.specs.Moments.{moment_after, owed_at, published_at, served_at, time_at}
use Rattle.replays.specs.Replayed.{IsInput, IsReplay, IsReplayed, IsTooManyFor, IsUnfitAt, cost_of_slots}
use Rattle.replays.proofs.OneFacts.{facts_one}

-- at most one action is the first that applies
abbrev pub OneAction : Type 0
OneAction = (s : Course) (time : ℕ) (owed : List ℕ) (a b : Action) → IsFirstAction s time owed a → IsFirstAction s time owed b → a ≡ b

-- ---- the moment after an action

served_one : (x : Input) (m : Moment) (most : ℕ) (a b : Moment) → IsServedFor x m most a → IsServedFor x m most b → a ≡ b
served_one x m most a b is_a is_b =
    let left = left_after x.table.flows m.slots in
    let granted : is_a.granted ≡ is_b.granted = one_grants x.table.flows m.line left is_a.granted is_b.granted is_a.grants is_b.grants in
    let count : is_a.count ≡ is_b.count =
    one_run_length left is_b.granted most is_a.count is_b.count (subst (λ l. IsRunLength left l most is_a.count) granted is_a.run) is_b.run in
    is_a.next_is ∙ ap (served_at m is_a.count) granted ∙ ap (λ n. served_at m n is_b.granted) count ∙ sym is_b.next_is

published_one : (x : Input) (m a b : Moment) → IsPublished x m a → IsPublished x m b → a ≡ b
published_one x m a b is_a is_b = is_a.next_is ∙ ap (published_at x m) (facts_one x m is_a.facts is_b.facts is_a.asked is_b.asked) ∙ sym is_b.next_is

next_one : (x : Input) (m : Moment) (action : Action) (a b : Moment) → IsNext x m action a → IsNext x m action b → a ≡ b
next_one x m (Register coflow) a b is_a is_b = is_a ∙ sym is_b
next_one x m (Withdraw coflow) a b is_a is_b = is_a ∙ sym is_b
next_one x m Publish a b is_a is_b = published_one x m a b is_a is_b
next_one x m (Run most) a b is_a is_b = served_one x m most a b is_a is_b
next_one x m (Skip to) a b is_a is_b = is_a ∙ sym is_b
next_one x m End a b is_a is_b = absurd is_a
next_one x m (TooMany count) a b is_a is_b = absurd is_a

-- ---- answers that are no order

-- an instance of so many coflows; none has a flow
abbrev idle : ℕ → Instance
idle n = record { coflows = range_with_len 0 n; weight = λ c. 0; ports = 0; flows = [] }

idle_unfit : (n : ℕ) (order : List ℕ) (place : ℕ) → IsFirstUnfit n order place → IsFirstUnfit (length (idle n).coflows) order place
idle_unfit n order place unfit = subst (λ k. IsFirstUnfit k order place) (sym (length-range_with_len 0 n)) unfit

order_is_fit : (n : ℕ) (order : List ℕ) (place : ℕ) → IsPermutation order → length order ≡ n → IsFirstUnfit n order place → ⊥
order_is_fit n order place permutation count unfit =
    let served : IsServedOrder (idle n) order (serve [] order) = record {
      count = count ∙ sym (length-range_with_len 0 n);
      permutation = permutation;
      served = served_exists [] order (λ f lt some. absurd (omega (arith, lt)));
    } in
    fits_nowhere_unfit (idle n) order (serve [] order) place served (idle_unfit n order place unfit)

-- ---- moments after which nothing comes

-- no action has a moment after this one
abbrev IsLast : Input → Moment → Type 0
IsLast x m = (action : Action) (next : Moment) → DoesNext x m action → IsNext x m action next → ⊥

module _ (one : OneAction) (x : Input) where
  does_one : (m : Moment) (a b : Action) → DoesNext x m a → DoesNext x m b → a ≡ b
  does_one m a b is_a is_b = one m.course (time_at m) (owed_at x m) a b is_a is_b

  last_where : (m : Moment) (a : Action) → DoesNext x m a → ((next : Moment) → IsNext x m a next → ⊥) → IsLast x m
  last_where m a does none action next is goes = none next (subst (λ k. IsNext x m k next) (does_one m action a is does) goes)

  last_end : (m : Moment) → DoesNext x m End → IsLast x m
  last_end m does = last_where m End does (λ next goes. goes)

  last_too_many : (m : Moment) (count : ℕ) → DoesNext x m (TooMany count) → IsLast x m
  last_too_many m count does = last_where m (TooMany count) does (λ next goes. goes)

  none_published : (m : Moment) (facts : FactsTold) (place : ℕ) → IsAsked x m facts → IsFirstUnfit (length x.table.ids) (answer_of (asked_at x m) facts) place → (next : Moment) →
      IsPublished x m next → ⊥
  none_published m facts place asked unfit next is =
      let same : facts ≡ is.facts = facts_one x m facts is.facts asked is.asked in
      order_is_fit (length x.table.ids) (answer_of (asked_at x m) is.facts) place is.order is.each
      (subst (λ f. IsFirstUnfit (length x.table.ids) (answer_of (asked_at x m) f) place) same unfit)

  last_unfit : (ranker : Meaning) (epoch place : ℕ) (u : IsUnfitAt x ranker epoch place) → IsLast x u.moment
  last_unfit ranker epoch place u = last_where u.moment Publish u.publishes (none_published u.moment u.facts place u.asked u.place_is)

  -- ---- steps

  both_last : (m : Moment) (ss ts : List Step) → AreStepsFrom x m ss → AreStepsFrom x m ts → IsLast x (moment_after m ss) → IsLast x (moment_after m ts) →
      moment_after m ss ≡ moment_after m ts
  both_last m [] [] ds dt ls lt = refl
  both_last m [] (t ∷ ts) ds dt ls lt = absurd (ls t.action t.next dt.0 dt.1)
  both_last m (s ∷ ss) [] ds dt ls lt = absurd (lt s.action s.next ds.0 ds.1)
  both_last m (s ∷ ss) (t ∷ ts) ds dt ls lt =
      let action : t.action ≡ s.action = does_one m t.action s.action dt.0 ds.0 in
      let next : t.next ≡ s.next = next_one x m s.action t.next s.next (subst (λ a. IsNext x m a t.next) action dt.1) ds.1 in
      let dt' = subst (λ n. AreStepsFrom x n ts) next dt.2 in
      let lt' = subst (λ n. IsLast x (moment_after n ts)) next lt in
      both_last s.next ss ts ds.2 dt' ls lt' ∙ ap (λ n. moment_after n ts) (sym next)

  -- a replay comes to one moment after which nothing comes
  last_one : (ranker : Meaning) (m n : Moment) → IsMoment x ranker m → IsMoment x ranker n → IsLast x m → IsLast x n → m ≡ n
  last_one ranker m n is_m is_n lm ln =
      is_m.last ∙
      both_last (first_moment x ranker) is_m.steps is_n.steps is_m.are is_n.are (subst (IsLast x) is_m.last lm) (subst (IsLast x) is_n.last ln) ∙
      sym is_n.last

  -- two actions at its end are one
  both_end : (ranker : Meaning) (m n : Moment) (a b : Action) → IsMoment x ranker m → IsMoment x ranker n → IsLast x m → IsLast x n → DoesNext x m a → DoesNext x n b → a ≡ b
  both_end ranker m n a b is_m is_n lm ln does_m does_n =
      does_one m a b does_m (subst (λ k. DoesNext x k b) (sym (last_one ranker m n is_m is_n lm ln)) does_n)

  -- ---- what a replay comes to

  slots_one : (ranker : Meaning) (a b : List (List ℕ)) → IsReplay x ranker a → IsReplay x ranker b → a ≡ b
  slots_one ranker a b ra rb =
      let same : ra.moment ≡ rb.moment = last_one ranker ra.moment rb.moment ra.reached rb.reached (last_end ra.moment ra.ends) (last_end rb.moment rb.ends) in
      ra.slots_are ∙ ap (λ (m : Moment). m.slots) same ∙ sym rb.slots_are

  end_or_unfit : (ranker : Meaning) (slots : List (List ℕ)) (epoch place : ℕ) → IsReplay x ranker slots → IsUnfitAt x ranker epoch place → ⊥
  end_or_unfit ranker slots epoch unfit r u =
      let same : End ≡ Publish =
      both_end ranker r.moment u.moment End Publish r.reached u.reached (last_end r.moment r.ends) (last_unfit ranker epoch unfit u) r.ends u.publishes in
      omega (arith, ap place same)

  unfit_one : (ranker : Meaning) (epoch place epoch' place' : ℕ) → IsUnfitAt x ranker epoch place → IsUnfitAt x ranker epoch' place' → (epoch ≡ epoch') × (place ≡ place')
  unfit_one ranker epoch place epoch' place' u v =
      let same : v.moment ≡ u.moment = last_one ranker v.moment u.moment v.reached u.reached (last_unfit ranker epoch' place' v) (last_unfit ranker epoch place u) in
      let asked : IsAsked x u.moment v.facts = subst (λ m. IsAsked x m v.facts) same v.asked in
      let facts : v.facts ≡ u.facts = facts_one x u.moment v.facts u.facts asked u.asked in
      let unfit : IsFirstUnfit (length x.table.ids) (answer_of (asked_at x u.moment) v.facts) place' =
      subst (λ m. IsFirstUnfit (length x.table.ids) (answer_of (asked_at x m) v.facts) place') same v.place_is in
      let order : List ℕ = answer_of (asked_at x u.moment) u.facts in
      let unfit' : IsFirstUnfit (length x.table.ids) order place' =
      subst (λ f. IsFirstUnfit (length x.table.ids) (answer_of (asked_at x u.moment) f) place') facts unfit in
      let n : ℕ = length x.table.ids in
      let scores : UnfitAt place ≡ UnfitAt place' =
      score_one (idle n) order (UnfitAt place) (UnfitAt place') (idle_unfit n order place u.place_is) (idle_unfit n order place' unfit') in
      let places : place ≡ place' = cc in (
        u.epoch_is ∙ ap (λ (m : Moment). m.course.published + 1) (sym same) ∙ sym v.epoch_is,
        places,
      )

  replayed_one : (ranker : Meaning) (a b : Replayed) → IsReplayed x ranker a → IsReplayed x ranker b → a ≡ b
  replayed_one ranker (Cost s) (Cost t) (a, ra, is) (b, rb, is') = ap Cost (is ∙ ap (cost_of_slots x) (slots_one ranker a b ra rb) ∙ sym is')
  replayed_one ranker (Cost s) (Unfit epoch place) (a, ra, is) u = absurd (end_or_unfit ranker a epoch place ra u)
  replayed_one ranker (Unfit epoch place) (Cost t) u (b, rb, is) = absurd (end_or_unfit ranker b epoch place rb u)
  replayed_one ranker (Unfit epoch place) (Unfit epoch' place') u v =
      let (epochs, places) = unfit_one ranker epoch place epoch' place' u v in
      ap (λ e. Unfit e place) epochs ∙ ap (Unfit epoch') places

  never_published : (ranker : Meaning) (epoch unfit count : ℕ) → IsUnfitAt x ranker epoch unfit → IsTooManyFor x ranker count → ⊥
  never_published ranker epoch unfit count u t =
      let same : Publish ≡ TooMany count =
      both_end ranker u.moment t.moment Publish (TooMany count) u.reached t.reached (last_unfit ranker epoch unfit u) (last_too_many t.moment count t.next) u.publishes t.next in
      cc

  never_both : (ranker : Meaning) (result : Replayed) (count : ℕ) → IsReplayed x ranker result → IsTooManyFor x ranker count → ⊥
  never_both ranker (Cost total) count (slots, r, is) t =
      let same : End ≡ TooMany count =
      both_end ranker r.moment t.moment End (TooMany count) r.reached t.reached (last_end r.moment r.ends) (last_too_many t.moment count t.next) r.ends t.next in
      omega (arith, ap place same)
  never_both ranker (Unfit epoch unfit) count u t = never_published ranker epoch unfit count u t

pub one_schedule : OneAction → (x : Input) (ranker : Meaning) (a b : List (List ℕ)) → IsInput x → IsReplay x ranker a → IsReplay x ranker b → a ≡ b
one_schedule one x ranker a b input ra rb = slots_one one x ranker a b ra rb

pub one_replayed : OneAction → (x : Input) (ranker : Meaning) (a b : Replayed) → IsInput x → IsReplayed x ranker a → IsReplayed x ranker b → a ≡ b
one_replayed one x ranker a b input ra rb = replayed_one one x ranker a b ra rb

pub not_too_many : OneAction → (x : Input) (ranker : Meaning) (result : Replayed) (count : ℕ) → IsInput x → IsReplayed x ranker result → IsTooManyFor x ranker count → ⊥
not_too_many one x ranker result count input r t = never_both one x ranker result count r t

pub next_count : (x : Input) (ranker : Meaning) (count : ℕ) → IsTooManyFor x ranker count → count ≡ MAX_PUBLISHINGS + 1
next_count x ranker count t = t.next.applies.is_next
