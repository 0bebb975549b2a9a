-- What becomes of an action.
use Rattle.std.specs.Prelude.{◌≡◌, ℕ, List}
use Rattle.epochs.specs.declared.action.Action.{Action}
use Rattle.flow_table.specs.Table.{TableFacts}
use Rattle.rankers.specs.Meaning.{Meaning}
use Rattle.replays.specs.declared.kept.Kept.{Kept}
use Rattle.replays.specs.declared.rows.Replayed.{Replayed}
use Rattle.replays.specs.Kept.{IsAt, Tells}
use Rattle.replays.specs.Moments.{DoesNext, Input, IsMoment, IsNext, Moment}
use Rattle.replays.specs.Replayed.{IsReplayed}

-- what is kept is that of some moment of the replay of this table with these weights, at which this action comes next
abbrev pub MayAct : TableFacts → List ℕ → Kept → Action → Type 0
MayAct table weights kept action = (x : Input) × (m : Moment) × IsAt x m kept × (x.table ≡ table) ×
    (x.weights ≡ weights) × DoesNext x m action

-- from each moment at which this was kept and this action comes next, what is kept then is that of a moment after it
abbrev pub GoesOnFrom : TableFacts → Kept → Meaning → Action → Kept → Meaning → Type 0
GoesOnFrom table old before action new after = (x : Input) (m : Moment) → IsAt x m old → x.table ≡ table →
    DoesNext x m action → m.ranker ≡ before →
    (next : Moment) × IsNext x m action next × Tells x next new × (next.ranker ≡ after)

-- the replay of each ranker comes to this that has such a moment
abbrev pub EndsAs : TableFacts → List ℕ → Kept → Meaning → Action → Replayed → Type 0
EndsAs table weights old before action replayed = (x : Input) (m : Moment) (ranker : Meaning) → IsMoment x ranker m →
    IsAt x m old → x.table ≡ table → x.weights ≡ weights → DoesNext x m action → m.ranker ≡ before →
    IsReplayed x ranker replayed
