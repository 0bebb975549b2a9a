-- The steps of a replay, one more.
use Rattle.std.proofs.Common.{◌≡◌, List, [], ◌∷◌, ◌++◌, refl, sym, subst}
use Rattle.epochs.specs.declared.action.Action.{Action}
use Rattle.rankers.specs.Meaning.{Meaning}
use Rattle.replays.specs.Moments.{AreStepsFrom, DoesNext, Input, IsMoment, IsNext, Moment, Step, first_moment, moment_after}

after_push : (m : Moment) (ss : List Step) (s : Step) → moment_after m (ss ++ s ∷ []) ≡ s.next
after_push m [] s = refl
after_push m (t ∷ ts) s = after_push t.next ts s

steps_push : (x : Input) (m : Moment) (ss : List Step) (s : Step) → AreStepsFrom x m ss → DoesNext x (moment_after m ss) s.action → IsNext x (moment_after m ss) s.action s.next →
    AreStepsFrom x m (ss ++ s ∷ [])
steps_push x m [] s are does next = (does, next, tt)
steps_push x m (t ∷ ts) s are does next = (are.0, are.1, steps_push x t.next ts s are.2 does next)

pub first_is_moment : (x : Input) (ranker : Meaning) → IsMoment x ranker (first_moment x ranker)
first_is_moment x ranker = record { steps = []; are = tt; last = refl }

-- the moment after the first action that applies
pub next_is_moment : (x : Input) (ranker : Meaning) (m next : Moment) (action : Action) → IsMoment x ranker m → DoesNext x m action → IsNext x m action next →
    IsMoment x ranker next
next_is_moment x ranker m next action is does goes =
    let first = first_moment x ranker in
    let s : Step = record { action = action; next = next } in
    record {
      steps = is.steps ++ s ∷ [];
      are = steps_push x first is.steps s is.are (subst (λ n. DoesNext x n action) is.last does) (subst (λ n. IsNext x n action next) is.last goes);
      last = sym (after_push first is.steps s);
    }
