-- What is kept of a replay, from action to action.
use Rattle.std.proofs.Common.{◌≡◌, ℕ, ◌<◌, ◌≤◌, List, length, refl, sym, ap, subst, ◌∙◌, arith}
use Rattle.std.specs.Prelude.{slice_index, sum_by}
use Rattle.std.specs.List.{range_with_len}
use Rattle.coflow_units.specs.Served.{left_after}
use Rattle.coflow_units.proofs.ServedExists.{left_sum}
use Rattle.coflow_units.proofs.Sums.{sum_same}
use Rattle.epochs.specs.declared.action.Action.{Action}
use Rattle.epochs.specs.declared.action.Action.TheVariants.{End, Publish, Register, Run, Skip, TooMany, Withdraw}
use Rattle.epochs.specs.Choice.{IsFirstAction}
use Rattle.epochs.specs.Course.{Course, after, at_first}
use Rattle.rankers.specs.Meaning.{Meaning}
use Rattle.replays.specs.declared.kept.Kept.{Kept}
use Rattle.replays.specs.Kept.{MayDo, MayDoOf, Reaches, Tells}
use Rattle.replays.specs.Moments.{DoesNext, Input, IsNext, Moment, first_moment, owed_at, time_at}
use Rattle.replays.specs.Replayed.{IsInput, IsTooManyFor}
use Rattle.replays.proofs.Holding.{holds_first}
use Rattle.replays.proofs.Remaining.{goes_on, remaining, remaining_at}
use Rattle.replays.proofs.Steps.{first_is_moment, next_is_moment}
use Rattle.replays.proofs.Telling.{owed_are}

-- what remains, as it is kept
abbrev pub kept_remaining : ℕ → ℕ → Course → Kept → ℕ
kept_remaining coflows flows course kept =
    remaining coflows course (sum_by (λ f. slice_index kept.progress.left.items f) (range_with_len 0 flows)) kept.progress.time

pub remaining_is : (x : Input) (ranker : Meaning) (course : Course) (kept : Kept) (now : Meaning) (r : Reaches x ranker course kept now) →
    kept_remaining (length x.table.ids) (length x.table.flows) course kept ≡ remaining_at x r.moment
remaining_is x ranker course kept now r =
    let t = r.at.tells.progress in
    let left : sum_by (λ f. slice_index kept.progress.left.items f) (range_with_len 0 (length x.table.flows)) ≡ left_sum x.table.flows r.moment.slots =
    sum_same (λ f. slice_index kept.progress.left.items f) (left_after x.table.flows r.moment.slots) (range_with_len 0 (length x.table.flows)) (λ f has. t.left_is f) in
    ap (λ s. remaining (length x.table.ids) s (sum_by (λ f. slice_index kept.progress.left.items f) (range_with_len 0 (length x.table.flows))) kept.progress.time) r.course_is
    ∙ ap (λ n. remaining (length x.table.ids) r.moment.course n kept.progress.time) left
    ∙ ap (λ n. remaining (length x.table.ids) r.moment.course (left_sum x.table.flows r.moment.slots) n) t.time_is

-- before the first action
pub reaches_first : (x : Input) (ranker : Meaning) (course : Course) (kept : Kept) → IsInput x → course ≡ at_first x.arrivals x.every → Tells x (first_moment x ranker) kept →
    Reaches x ranker course kept ranker
reaches_first x ranker course kept input is tells = record {
  moment = first_moment x ranker;
  reached = first_is_moment x ranker;
  at = record { input = input; holds = holds_first x ranker input; tells = tells };
  course_is = is;
  ranker_is = refl;
}

-- the action that was decided is the next one
pub does_next : (x : Input) (ranker : Meaning) (course : Course) (kept : Kept) (now : Meaning) (r : Reaches x ranker course kept now) (owed : List ℕ) (answer action : Action) →
    owed ≡ kept.progress.owed.items → IsFirstAction course kept.progress.time owed answer → answer ≡ action → DoesNext x r.moment action
does_next x ranker course kept now r owed answer action lent first is =
    let t = r.at.tells.progress in
    let owes : owed ≡ owed_at x r.moment = lent ∙ owed_are x r.moment kept.progress t r.at.tells.each.owed in
    subst (λ s. IsFirstAction s (time_at r.moment) (owed_at x r.moment) action) r.course_is
    (subst (λ n. IsFirstAction course n (owed_at x r.moment) action) t.time_is
    (subst (λ l. IsFirstAction course kept.progress.time l action) owes (subst (IsFirstAction course kept.progress.time owed) is first)))

pub may_do : (x : Input) (ranker : Meaning) (course : Course) (kept : Kept) (now : Meaning) (r : Reaches x ranker course kept now) (action : Action) → DoesNext x r.moment action →
    MayDo kept action
may_do x ranker course kept now r action does = (x, r.moment, r.at, does)

pub may_do_of : (x : Input) (ranker : Meaning) (course : Course) (kept : Kept) (now : Meaning) (r : Reaches x ranker course kept now) (action : Action) →
    DoesNext x r.moment action →
    MayDoOf x.table kept action
may_do_of x ranker course kept now r action does = (x, r.moment, r.at, refl, does)

next_course : (x : Input) (m next : Moment) (action : Action) → IsNext x m action next → next.course ≡ after m.course (time_at m) action
next_course x m next (Register coflow) is = ap (λ (n : Moment). n.course) is
next_course x m next (Withdraw coflow) is = ap (λ (n : Moment). n.course) is
next_course x m next Publish is = ap (λ (n : Moment). n.course) is.next_is
next_course x m next (Run most) is = ap (λ (n : Moment). n.course) is.next_is
next_course x m next (Skip to) is = ap (λ (n : Moment). n.course) is
next_course x m next End is = absurd is
next_course x m next (TooMany count) is = absurd is

-- the moment after an action is reached, and less remains
pub record ReachesOn (x : Input) (ranker : Meaning) (course : Course) (kept : Kept) (later : Meaning) (before : ℕ) : Type 0 where
  pub reaches : Reaches x ranker course kept later
  pub less : kept_remaining (length x.table.ids) (length x.table.flows) course kept < before

pub reaches_on : (x : Input) (ranker : Meaning) (course new_course : Course) (kept new : Kept) (now later : Meaning) (r : Reaches x ranker course kept now)
    (answer action : Action) (next : Moment) →
    DoesNext x r.moment action → IsNext x r.moment action next → Tells x next new → new_course ≡ after course kept.progress.time answer → answer ≡ action → next.ranker ≡ later →
    ReachesOn x ranker new_course new later (kept_remaining (length x.table.ids) (length x.table.flows) course kept)
reaches_on x ranker course new_course kept new now later r answer action next does is tells course_is answered ranker_is =
    let on = goes_on x r.moment next action r.at.input r.at.holds does is in
    let same : new_course ≡ next.course =
    course_is ∙ ap (after course kept.progress.time) answered ∙ ap (λ s. after s kept.progress.time action) r.course_is ∙
    ap (λ n. after r.moment.course n action) r.at.tells.progress.time_is ∙ sym (next_course x r.moment next action is) in
    let reaches : Reaches x ranker new_course new later = record {
      moment = next;
      reached = next_is_moment x ranker r.moment next action r.reached does is;
      at = record { input = r.at.input; holds = on.holds; tells = tells };
      course_is = same;
      ranker_is = ranker_is;
    } in
    record {
      reaches = reaches;
      less = omega (arith, on.less, remaining_is x ranker new_course new later reaches, remaining_is x ranker course kept now r);
    }

pub too_many : (x : Input) (ranker : Meaning) (course : Course) (kept : Kept) (now : Meaning) (r : Reaches x ranker course kept now) (count : ℕ) →
    DoesNext x r.moment (TooMany count) → IsTooManyFor x ranker count
too_many x ranker course kept now r count does = record { moment = r.moment; reached = r.reached; next = does }

-- what is asked of the next action
pub next_fits : (x : Input) (ranker : Meaning) (course : Course) (kept : Kept) (now : Meaning) (r : Reaches x ranker course kept now) (owed : List ℕ) →
    owed ≡ kept.progress.owed.items →
    (length owed ≡ length course.arrivals) × (kept.progress.time ≤ 2199023255552)
next_fits x ranker course kept now r owed lent =
    let t = r.at.tells in
    let arrivals = ap (λ (s : Course). length s.arrivals) r.course_is in
    let same = ap (λ (l : List ℕ). length l) r.at.holds.arrivals_are in
    (omega (arith, ap (λ (l : List ℕ). length l) lent, t.each.owed, arrivals, same, r.at.input.each_arrival), omega (arith, t.progress.time_is, r.at.holds.short))
