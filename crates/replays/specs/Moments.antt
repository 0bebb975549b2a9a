-- The moments of a replay. Coflows join as they arrive, at each epoch a ranker orders all coflows, and those that are present
-- stand in its order; in each slot the line is served.
use Rattle.std.specs.Prelude.{◌≡◌, ℕ, ◌-◌, ◌==◌, ◌&&◌, ◌||◌, not, if◌then◌else◌, Bool, List, [], ◌∷◌, ◌++◌}
use Rattle.std.specs.Prelude.{filter, length, map, replicate, slice_index, sum_by, false}
use Rattle.std.specs.List.{range_with_len}
use Rattle.coflow_units.specs.Completion.{completion}
use Rattle.coflow_units.specs.Flows.{Instance, coflow_of, with_units}
use Rattle.coflow_units.specs.Grants.{IsGrants, IsRunLength}
use Rattle.coflow_units.specs.Served.{left_after}
use Rattle.class_rates.specs.Classes.{IsPermutation}
use Rattle.epochs.specs.declared.action.Action.{Action}
use Rattle.epochs.specs.declared.action.Action.TheVariants.{End, Publish, Register, Run, Skip, TooMany, Withdraw}
use Rattle.epochs.specs.Choice.{IsFirstAction}
use Rattle.epochs.specs.Course.{Course, after, at_first, is_marked}
use Rattle.flow_table.specs.Table.{TableFacts}
use Rattle.rankers.specs.ByKey.{by_key}
use Rattle.rankers.specs.FactsTold.{FactsTold, IsFacts, IsFactsOf, with_left}
use Rattle.rankers.specs.Meaning.{Meaning, after_notes, after_question, answer_of}

-- what is replayed: the table, a weight and an arrival in slots for each coflow, and the slots of an epoch
pub record Input : Type 0 where
  pub table : TableFacts
  pub weights : List ℕ
  pub arrivals : List ℕ
  pub every : ℕ

-- an order that was published: how many slots had passed, what was left then, and the line that it made
pub record Publishing : Type 0 where
  pub time : ℕ
  pub left : Instance
  pub line : List ℕ

-- which coflows joined and left, and when an order was published last; the orders that were published; the line that is
-- served; the slots so far; the ranker, as it is by now; and the coflows whose end it was told
pub record Moment : Type 0 where
  pub course : Course
  pub publishings : List Publishing
  pub line : List ℕ
  pub slots : List (List ℕ)
  pub ranker : Meaning
  pub told : List Bool

-- nobody joined
abbrev pub first_moment : Input → Meaning → Moment
first_moment x ranker = record {
  course = at_first x.arrivals x.every;
  publishings = [];
  line = [];
  slots = [];
  ranker = ranker;
  told = replicate (length x.table.ids) false;
}

-- how many slots have passed
abbrev pub time_at : Moment → ℕ
time_at m = length m.slots

-- the units that the flows of a coflow have left
abbrev pub owes : Input → Moment → ℕ → ℕ
owes x m coflow =
    sum_by (λ f. if coflow_of x.table.flows f == coflow then left_after x.table.flows m.slots f else 0)
    (range_with_len 0 (length x.table.flows))

-- what each coflow owes, by number
abbrev pub owed_at : Input → Moment → List ℕ
owed_at x m = map (owes x m) (range_with_len 0 (length x.table.ids))

-- the coflow joined and has not left
abbrev pub is_here : Moment → ℕ → Bool
is_here m coflow = is_marked m.course.registered coflow && not (is_marked m.course.withdrawn coflow)

-- the units that a flow has left, where its coflow is present, and else 0
abbrev pub left_here : Input → Moment → ℕ → ℕ
left_here x m f = if is_here m (coflow_of x.table.flows f) then left_after x.table.flows m.slots f else 0

-- what is left: the present coflows with their weights, and the same flow numbers, each with the units that it has left
-- where its coflow is present, and none elsewhere
abbrev pub left_at : Input → Moment → Instance
left_at x m = record {
  coflows = filter (is_here m) (range_with_len 0 (length x.table.ids));
  weight = slice_index x.weights;
  ports = x.table.ports;
  flows = with_units (left_here x m) x.table.flows;
}

-- ---- questions

-- the coflow joined, has ended, and the ranker was not told
abbrev pub is_news : Input → Moment → ℕ → Bool
is_news x m coflow =
    is_marked m.course.registered coflow && (owes x m coflow == 0) && not (is_marked m.told coflow)

-- those coflows by completion and then by number
abbrev pub news : Input → Moment → List ℕ
news x m = filter (is_news x m) (by_key (completion x.table.flows m.slots) (length x.table.ids))

-- the ranker as it is asked: before each question but the first it is told of each coflow that has ended and of which it was
-- not told, also of those that ended before the first question
abbrev pub asked_at : Input → Moment → Meaning
asked_at x m = if m.course.published == 0 then m.ranker
    else after_notes m.ranker (completion x.table.flows m.slots) (news x m)

-- the coflows whose end it was told by then
abbrev pub told_at : Input → Moment → List Bool
told_at x m = if m.course.published == 0 then m.told
    else map (λ c. is_marked m.told c || is_news x m c) (range_with_len 0 (length x.table.ids))

-- what the ranker is asked of: the weights of all coflows and their arrivals in milliseconds, come or not, and the loads
-- of what those that are present have left, with the order by bottleneck, select, scale, iterate of these loads
pub record IsAsked (x : Input) (m : Moment) (facts : FactsTold) : Type 0 where
  pub facts_hold : IsFacts facts
  pub facts_are : IsFactsOf (with_left x.table (left_here x m)) x.weights facts

-- the moment after an answer: the line is the answer without those that are not present
abbrev pub published_at : Input → Moment → FactsTold → Moment
published_at x m facts = record {
  course = after m.course (time_at m) Publish;
  publishings = m.publishings ++ record {
    time = time_at m;
    left = left_at x m;
    line = filter (is_here m) (answer_of (asked_at x m) facts);
  } ∷ [];
  line = filter (is_here m) (answer_of (asked_at x m) facts);
  slots = m.slots;
  ranker = after_question (asked_at x m) facts;
  told = told_at x m;
}

-- ---- steps

-- who joins stands last in the line
abbrev pub joined_at : Moment → ℕ → Moment
joined_at m coflow = record {
  course = after m.course (time_at m) (Register coflow);
  publishings = m.publishings;
  line = m.line ++ coflow ∷ [];
  slots = m.slots;
  ranker = m.ranker;
  told = m.told;
}

-- who leaves stands in the line no longer
abbrev pub left_the_line : Moment → ℕ → Moment
left_the_line m coflow = record {
  course = after m.course (time_at m) (Withdraw coflow);
  publishings = m.publishings;
  line = filter (λ c. not (c == coflow)) m.line;
  slots = m.slots;
  ranker = m.ranker;
  told = m.told;
}

-- so many slots more, each with these flows
abbrev pub served_at : Moment → ℕ → List ℕ → Moment
served_at m count flows = record {
  course = m.course;
  publishings = m.publishings;
  line = m.line;
  slots = m.slots ++ replicate count flows;
  ranker = m.ranker;
  told = m.told;
}

-- a run: for at most so many slots the grants of the line are served, until one of them has no units left
pub record IsServedFor (x : Input) (m : Moment) (most : ℕ) (next : Moment) : Type 0 where
  pub granted : List ℕ
  pub count : ℕ
  pub grants : IsGrants x.table.flows m.line (left_after x.table.flows m.slots) granted
  pub run : IsRunLength (left_after x.table.flows m.slots) granted most count
  pub next_is : next ≡ served_at m count granted

-- an order is published: the answer has each coflow once
pub record IsPublished (x : Input) (m next : Moment) : Type 0 where
  pub facts : FactsTold
  pub asked : IsAsked x m facts
  pub order : IsPermutation (answer_of (asked_at x m) facts)
  pub each : length (answer_of (asked_at x m) facts) ≡ length x.table.ids
  pub next_is : next ≡ published_at x m facts

-- the moment after an action
abbrev pub IsNext : Input → Moment → Action → Moment → Type 0
IsNext x m (Register coflow) next = next ≡ joined_at m coflow
IsNext x m (Withdraw coflow) next = next ≡ left_the_line m coflow
IsNext x m Publish next = IsPublished x m next
IsNext x m (Run most) next = IsServedFor x m most next
IsNext x m (Skip to) next = next ≡ served_at m (to - 1 - time_at m) []
IsNext x m End next = ⊥
IsNext x m (TooMany count) next = ⊥

-- the action is the first that applies
abbrev pub DoesNext : Input → Moment → Action → Type 0
DoesNext x m action = IsFirstAction m.course (time_at m) (owed_at x m) action

-- an action, and the moment after it
pub record Step : Type 0 where
  pub action : Action
  pub next : Moment

-- each of the steps is the first action that applies, one after another
abbrev pub AreStepsFrom : Input → Moment → List Step → Type 0
AreStepsFrom x m [] = Unit {0}
AreStepsFrom x m (s ∷ ss) = DoesNext x m s.action × IsNext x m s.action s.next × AreStepsFrom x s.next ss

-- the moment after the steps
abbrev pub moment_after : Moment → List Step → Moment
moment_after m [] = m
moment_after m (s ∷ ss) = moment_after s.next ss

-- a moment of the replay of a ranker
pub record IsMoment (x : Input) (ranker : Meaning) (m : Moment) : Type 0 where
  pub steps : List Step
  pub are : AreStepsFrom x (first_moment x ranker) steps
  pub last : m ≡ moment_after (first_moment x ranker) steps
