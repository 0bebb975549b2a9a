-- What is kept of a replay, and how it tells the moment.
use Rattle.std.specs.Prelude.{◌≡◌, ℕ, ◌+◌, ◌<◌, ◌≤◌, ◌^◌, ◌==◌, ◌&&◌, not, Bool, true, false, List, All}
use Rattle.std.specs.Prelude.{Contains, length, slice_index, sum_by}
use Rattle.std.specs.List.{range_with_len}
use Rattle.coflow_units.specs.declared.limits.TheConstants.{MAX_UNITS}
use Rattle.coflow_units.specs.Completion.{completion}
use Rattle.coflow_units.specs.Flows.{IsDistinct}
use Rattle.coflow_units.specs.Served.{left_after}
use Rattle.epochs.specs.declared.action.Action.{Action}
use Rattle.epochs.specs.declared.action.Action.TheVariants.{End}
use Rattle.epochs.specs.Course.{Course, is_marked}
use Rattle.epochs.specs.Tallies.{IsTallied}
use Rattle.flow_table.specs.Table.{TableFacts}
use Rattle.matching.specs.declared.tables.Tables.{Tables}
use Rattle.matching.specs.Matching.{IsSettled, ports_of, room_of}
use Rattle.replays.specs.declared.kept.Kept.{Kept}
use Rattle.replays.specs.declared.line.Line.{Line}
use Rattle.replays.specs.declared.news.Marks.{Marks}
use Rattle.replays.specs.declared.progress.Progress.{Progress}
use Rattle.replays.specs.declared.questions.Questions.{Questions}
use Rattle.rankers.specs.Meaning.{Meaning}
use Rattle.replays.specs.Moments.{DoesNext, Input, IsMoment, Moment, is_here, time_at}
use Rattle.replays.specs.Recording.{TellsRecording}
use Rattle.replays.specs.Replayed.{IsInput}

-- there is room for as many flows and ports
pub record HasSameRoom (old new : Tables) : Type 0 where
  pub ports : ports_of new ≡ ports_of old
  pub room : room_of new ≡ room_of old

-- the coflow joined, owes nothing, and was not told
abbrev pub is_untold : Marks → Progress → ℕ → Bool
is_untold marks progress coflow =
    is_marked marks.joined.items coflow && (slice_index progress.owed.items coflow == 0) &&
    not (is_marked marks.told.items coflow)

-- there is a mark of each kind, and what it owes and when it was served, for each of so many coflows
pub record HasMarks (n : ℕ) (marks : Marks) (progress : Progress) : Type 0 where
  pub joined : length marks.joined.items ≡ n
  pub present : length marks.present.items ≡ n
  pub told : length marks.told.items ≡ n
  pub owed : length progress.owed.items ≡ n
  pub ends : length progress.ends.items ≡ n

-- there is room for questions about the coflows of the table with these weights
pub record FitsTable (t : TableFacts) (weights : List ℕ) (q : Questions) : Type 0 where
  pub count : length weights ≡ length t.ids
  pub weights_are : q.facts.weights ≡ weights
  pub arrivals_are : q.facts.arrivals ≡ t.arrivals
  pub ports_are : q.facts.loads.ports ≡ t.ports
  pub each_mark : length q.everyone.items ≡ length t.ids
  pub marked : All (λ mark. mark ≡ true) q.everyone.items
  pub room : length t.ids ≤ q.ordering.room
  pub each_place : length q.answer.items ≡ length t.ids

-- ---- the moment

-- what the slots of the moment left, and when they served each coflow last
pub record TellsProgress (x : Input) (m : Moment) (p : Progress) : Type 0 where
  pub time_is : p.time ≡ time_at m
  pub left_is : (f : ℕ) → slice_index p.left.items f ≡ left_after x.table.flows m.slots f
  pub tallied : IsTallied x.table.flows p.left.items p.owed.items
  pub ends_are : (c : ℕ) → c < length x.table.ids →
      slice_index p.ends.items c ≡ completion x.table.flows m.slots c

-- who joined by the moment, who is present, and who was told
pub record TellsMarks (m : Moment) (marks : Marks) : Type 0 where
  pub joined_are : marks.joined.items ≡ m.course.registered
  pub present_are : (c : ℕ) → is_marked marks.present.items c ≡ is_here m c
  pub told_are : marks.told.items ≡ m.told

-- the line of the moment, and its grants where they are not stale
pub record TellsLine (x : Input) (m : Moment) (l : Line) : Type 0 where
  pub coflows_are : l.coflows.items ≡ m.line
  pub ports : ports_of l.grants ≡ x.table.ports
  pub room : length x.table.flows ≤ room_of l.grants
  pub settled : l.stale ≡ false → IsSettled x.table.flows m.line (left_after x.table.flows m.slots) l.grants

-- what is kept is what the moment tells
pub record Tells (x : Input) (m : Moment) (kept : Kept) : Type 0 where
  pub progress : TellsProgress x m kept.progress
  pub marks : TellsMarks m kept.marks
  pub each : HasMarks (length x.table.ids) kept.marks kept.progress
  pub line : TellsLine x m kept.line
  pub fits : FitsTable x.table x.weights kept.questions
  pub published : kept.questions.published ≡ m.course.published
  pub recording : TellsRecording x m kept.recording

-- ---- what holds of each moment

-- there is a mark of each kind for each coflow, the line has those that are present, once each, and the slots are no more
-- than the latest arrival and the units that were served
pub record Holds (x : Input) (m : Moment) : Type 0 where
  pub arrivals_are : m.course.arrivals ≡ x.arrivals
  pub every_is : m.course.every ≡ x.every
  pub registered : length m.course.registered ≡ length x.table.ids
  pub withdrawn : length m.course.withdrawn ≡ length x.table.ids
  pub told : length m.told ≡ length x.table.ids
  pub gone : (c : ℕ) → is_marked m.course.withdrawn c ≡ true → is_marked m.course.registered c ≡ true
  pub distinct : IsDistinct m.line
  pub stands : (c : ℕ) → Contains m.line c → is_here m c ≡ true
  pub lined : (c : ℕ) → is_here m c ≡ true → Contains m.line c
  pub short : time_at m + sum_by (left_after x.table.flows m.slots) (range_with_len 0 (length x.table.flows))
      ≤ 2 ^ 32 + MAX_UNITS

-- what is kept is that of this moment
pub record IsAt (x : Input) (m : Moment) (kept : Kept) : Type 0 where
  pub input : IsInput x
  pub holds : Holds x m
  pub tells : Tells x m kept

-- what is kept is that of some moment at which this action comes next
abbrev pub MayDo : Kept → Action → Type 0
MayDo kept action = (x : Input) × (m : Moment) × IsAt x m kept × DoesNext x m action

-- the same, of the replay of this table
abbrev pub MayDoOf : TableFacts → Kept → Action → Type 0
MayDoOf table kept action = (x : Input) × (m : Moment) × IsAt x m kept × (x.table ≡ table) × DoesNext x m action

-- what is kept, the course and the ranker are those of a moment of the replay of this ranker
pub record Reaches (x : Input) (ranker : Meaning) (course : Course) (kept : Kept) (now : Meaning) : Type 0 where
  pub moment : Moment
  pub reached : IsMoment x ranker moment
  pub at : IsAt x moment kept
  pub course_is : course ≡ moment.course
  pub ranker_is : moment.ranker ≡ now

-- the replay of this ranker ended, and what is kept is that of its last moment
pub record Ends (x : Input) (ranker : Meaning) (kept : Kept) : Type 0 where
  pub moment : Moment
  pub reached : IsMoment x ranker moment
  pub ends : DoesNext x moment End
  pub at : IsAt x moment kept

-- the input whose arrivals and epochs are those of the course
abbrev pub input_of : TableFacts → List ℕ → Course → Input
input_of table weights course = record {
  table = table;
  weights = weights;
  arrivals = course.arrivals;
  every = course.every;
}
