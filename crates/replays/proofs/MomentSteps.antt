-- What holds at first and after each step holds of each moment.
use Rattle.std.proofs.Common.{List, [], ◌∷◌, sym, subst}
use Rattle.epochs.specs.declared.action.Action.{Action}
use Rattle.rankers.specs.Meaning.{Meaning}
use Rattle.replays.specs.Moments.{AreStepsFrom, DoesNext, first_moment, Input, IsMoment, IsNext, Moment, moment_after, Step}

module _ (x : Input) (holds : Moment → Type 0) (goes_on : (m next : Moment) (a : Action) → holds m → DoesNext x m a → IsNext x m a next → holds next) where
  along : (m : Moment) (steps : List Step) → holds m → AreStepsFrom x m steps → holds (moment_after m steps)
  along m [] h are = h
  along m (s ∷ ss) h are = along s.next ss (goes_on m s.next s.action h are.0 are.1) are.2

  pub at_each : (ranker : Meaning) (m : Moment) → holds (first_moment x ranker) → IsMoment x ranker m → holds m
  at_each ranker m first is = subst holds (sym is.last) (along (first_moment x ranker) is.steps first is.are)
