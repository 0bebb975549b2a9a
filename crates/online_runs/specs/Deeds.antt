-- What an online run does: the first action that applies, again and again; and the journal that this makes.
use Rattle.std.specs.Prelude.{◌≡◌, ℕ, ◌-◌, ◌==◌, if◌then◌else◌, List, [], ◌∷◌, ◌++◌, flat_map, length, map, sum_by}
use Rattle.std.specs.List.{range_with_len}
use Rattle.coflow_units.specs.Flows.{coflow_of}
use Rattle.epochs.specs.declared.action.Action.{Action}
use Rattle.epochs.specs.declared.action.Action.TheVariants.{End, Publish as PublishOrder, Register as Join}
use Rattle.epochs.specs.declared.action.Action.TheVariants.{Run as Serve, Skip as Pass, TooMany, Withdraw as Leave}
use Rattle.epochs.specs.Choice.{IsFirstAction}
use Rattle.epochs.specs.Course.{after, at_first, Course}
use Rattle.journal.specs.declared.command.Command.{Command}
use Rattle.journal.specs.declared.command.Command.TheVariants.{Close, Open, Publish, Register, Skip, Withdraw}
use Rattle.journal.specs.declared.command.Entry.{Entry}
use Rattle.journal.specs.declared.opening.Opening.{Opening}
use Rattle.journal.specs.State.{owed, State}
use Rattle.journal.specs.Closed.{schedule_of}
use Rattle.journal.specs.Fold.{state_of}
use Rattle.journal.specs.Journal.{asked, IsLegal}

-- the time after a journal: how many slots have passed
abbrev pub time_of : Opening → List Entry → ℕ
time_of o journal = (state_of o journal).next - 1

-- the units that the flows of the coflow still owe
abbrev pub coflow_owes : Opening → State → ℕ → ℕ
coflow_owes o s coflow =
    sum_by (λ f. if coflow_of o.table.flows f == coflow then owed o s f else 0)
    (range_with_len 0 (length o.table.flows))

-- what each coflow owes after a journal, by number
abbrev pub owed_after : Opening → List Entry → List ℕ
owed_after o journal = map (coflow_owes o (state_of o journal)) (range_with_len 0 (length o.table.ids))

-- the commands by which an action is carried out; a run is opened and closed
abbrev pub commands_of : Action → List Command
commands_of (Join coflow) = Register coflow ∷ []
commands_of (Leave coflow) = Withdraw coflow ∷ []
commands_of PublishOrder = Publish ∷ []
commands_of (Serve most) = Open most ∷ Close ∷ []
commands_of (Pass to) = Skip to ∷ []
commands_of End = []
commands_of (TooMany count) = []

-- an action, and the entries of its commands
pub record Deed : Type 0 where
  pub action : Action
  pub entries : List Entry

-- the journal that deeds make
abbrev pub journal_of : List Deed → List Entry
journal_of deeds = flat_map (λ (d : Deed). d.entries) deeds

-- the course after deeds that begin at this course, after this journal
abbrev pub course_from : Opening → Course → List Entry → List Deed → Course
course_from o s before [] = s
course_from o s before (d ∷ ds) = course_from o (after s (time_of o before) d.action) (before ++ d.entries) ds

-- the course of a run over coflows that arrive at these times, where an epoch has so many slots, after deeds
abbrev pub course_of : Opening → List ℕ → ℕ → List Deed → Course
course_of o arrivals every deeds = course_from o (at_first arrivals every) [] deeds

-- at this course, after this journal, the deed is the first action that applies, and its commands are asked by the
-- caller 0
pub record IsDone (o : Opening) (s : Course) (before : List Entry) (d : Deed) : Type 0 where
  pub first : IsFirstAction s (time_of o before) (owed_after o before) d.action
  pub asks : map asked d.entries ≡ map (λ k. (0, k)) (commands_of d.action)

-- so it is with each of the deeds, one after another
abbrev pub AreDoneFrom : Opening → Course → List Entry → List Deed → Type 0
AreDoneFrom o s before [] = Unit {0}
AreDoneFrom o s before (d ∷ ds) =
    IsDone o s before d × AreDoneFrom o (after s (time_of o before) d.action) (before ++ d.entries) ds

-- An online run so far: from the first course on, in which nobody joined, each deed is the first action that applies;
-- and the journal is legal, so each reply is the master's.
pub record IsOnlineSoFar (o : Opening) (arrivals : List ℕ) (every : ℕ) (deeds : List Deed) : Type 0 where
  pub done : AreDoneFrom o (at_first arrivals every) [] deeds
  pub legal : IsLegal o (journal_of deeds)

-- what an online run does after these deeds, where it does this
abbrev pub DoesNext : Opening → List ℕ → ℕ → List Deed → Action → Type 0
DoesNext o arrivals every deeds action =
    IsFirstAction (course_of o arrivals every deeds) (time_of o (journal_of deeds)) (owed_after o (journal_of deeds))
    action

-- the journal of an online run, from the first action to the end
pub record IsOnlineRun (o : Opening) (arrivals : List ℕ) (every : ℕ) (journal : List Entry) : Type 0 where
  pub deeds : List Deed
  pub so_far : IsOnlineSoFar o arrivals every deeds
  pub journal_is : journal ≡ journal_of deeds
  pub ends : DoesNext o arrivals every deeds End

-- the online run would publish more orders than may be published; this would have been the number of the next one
pub record PublishesTooMany (o : Opening) (arrivals : List ℕ) (every count : ℕ) : Type 0 where
  pub deeds : List Deed
  pub so_far : IsOnlineSoFar o arrivals every deeds
  pub next : DoesNext o arrivals every deeds (TooMany count)

-- the slots are those that an online run has served after some deeds
pub record IsServedOnline (o : Opening) (arrivals : List ℕ) (every : ℕ) (slots : List (List ℕ)) : Type 0 where
  pub deeds : List Deed
  pub so_far : IsOnlineSoFar o arrivals every deeds
  pub slots_are : slots ≡ schedule_of o (journal_of deeds)
