-- What becomes of a publishing.
use Rattle.std.specs.Prelude.{◌≡◌, ℕ, Option, None, Some, length}
use Rattle.epochs.specs.declared.action.Action.TheVariants.{Publish}
use Rattle.flow_table.specs.Table.{TableFacts}
use Rattle.rankers.specs.FactsTold.{FactsTold}
use Rattle.rankers.specs.Meaning.{Meaning, answer_of}
use Rattle.rankers.specs.Scores.{IsFirstUnfit}
use Rattle.replays.specs.declared.kept.Kept.{Kept}
use Rattle.replays.specs.Kept.{IsAt, Tells}
use Rattle.replays.specs.Moments.{DoesNext, Input, IsAsked, IsPublished, Moment, asked_at, told_at}

-- the answer is an order, and what is kept is that of the moment after it; or it is none from this place on
abbrev pub BecomesOf : Input → Moment → Kept → Meaning → Option ℕ → Type 0
BecomesOf x m kept ranker None = (next : Moment) × IsPublished x m next × Tells x next kept × (next.ranker ≡ ranker)
BecomesOf x m kept ranker (Some place) = (facts : FactsTold) × IsAsked x m facts ×
    IsFirstUnfit (length x.table.ids) (answer_of (asked_at x m) facts) place

-- so it is at each moment of a replay of the table of which this was kept, where the ranker was this and an order was due
abbrev pub IsPublishing : TableFacts → Kept → Meaning → Kept → Meaning → Option ℕ → Type 0
IsPublishing table old before new after unfit = (x : Input) (m : Moment) → IsAt x m old → x.table ≡ table →
    DoesNext x m Publish → m.ranker ≡ before → BecomesOf x m new after unfit

-- the moment once the ranker was told the news
abbrev pub told_moment : Input → Moment → Moment
told_moment x m = record {
  course = m.course;
  publishings = m.publishings;
  line = m.line;
  slots = m.slots;
  ranker = asked_at x m;
  told = told_at x m;
}

-- from each moment of a replay of which this was kept, the ranker is told the news where it was this
abbrev pub IsTelling : Kept → Meaning → Kept → Meaning → Type 0
IsTelling old before new after = (x : Input) (m : Moment) → IsAt x m old →
    IsAt x (told_moment x m) new × (m.ranker ≡ before → after ≡ asked_at x m)
