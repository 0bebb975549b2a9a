-- What `replay --policy` reads and writes.
use Rattle.std.specs.Prelude.{◌≡◌, ◌≢◌, ℕ, ◌<◌, Bool, true, false, List, Option, All, length, slice_index}
use Rattle.std.specs.List.{slice_index_or}
use Rattle.command_words.specs.Jobs.{Job, trace_name}
use Rattle.command_words.specs.Jobs.Job.{record_job}
use Rattle.command_words.specs.Line.{Text}
use Rattle.command_words.specs.Words.{Said}
use Rattle.flow_table.specs.Table.{IsTable, TableFacts, instance_of}
use Rattle.online_check.specs.Sound.{BoundsReleasedSchedules, IsSoundOnline}
use Rattle.online_text.specs.declared.value.Online.{Online}
use Rattle.online_text.specs.Online.{IsOnline}
use Rattle.online_text.specs.Text.{online_text}
use Rattle.outside.specs.Shelf.{Told}
use Rattle.rankers.specs.Meaning.{Meaning}
use Rattle.replays.specs.declared.record.Recorded.{Recorded}
use Rattle.replays.specs.declared.record.Recorded.TheVariants as recorded
use Rattle.replays.specs.declared.writing.ReplayReport.{ReplayReport}
use Rattle.replays.specs.Moments.{Input}
use Rattle.replays.specs.Recorded.{IsRecord, IsRecorded}
use Rattle.replays.specs.Replayed.{IsTooManyFor}
use Rattle.replays.specs.Text.{replay_text}
use Rattle.command_files.specs.declared.status.Status.{Status}
use Rattle.command_files.specs.declared.status.Status.TheVariants.{No, Ok, UnknownPolicy}
use Rattle.command_files.specs.Causes.{FilesGiveTable}
use Rattle.command_files.specs.Inputs.{IsInput}
use Rattle.command_files.specs.Written.{Appends}
use Rattle.command_jobs.specs.Replay.{replay_input}

-- ---- the ranker of a name

-- behind so many others of the bench, none of which has the name, stands one that has it
pub record IsPolicyAt (bench : List Meaning) (name : Text) (place : ℕ) : Type 0 where
  pub inside : place < length bench
  pub name_is : (d : Meaning) → (slice_index_or bench place d).name ≡ name
  pub first : (k : ℕ) (d : Meaning) → k < place → (slice_index_or bench k d).name ≢ name

-- the ranker is the first of the bench that has the name
pub record IsPolicy (bench : List Meaning) (name : Text) (ranker : Meaning) : Type 0 where
  pub place : ℕ
  pub stands : IsPolicyAt bench name place
  pub here : (d : Meaning) → slice_index_or bench place d ≡ ranker

-- the job names a policy, and no ranker of the bench has the name
abbrev pub LacksPolicy : List Meaning → Job → Type 0
LacksPolicy bench (record_job trace policy) = All (λ (m : Meaning). m.name ≢ policy) bench
LacksPolicy bench job = ⊥

-- where the job names a policy, a ranker of the bench has the name
abbrev pub HasPolicy : List Meaning → Job → Type 0
HasPolicy bench job = LacksPolicy bench job → ⊥

-- the cause of a policy that no ranker of the bench has
abbrev pub IsPolicyCause : Type 0 → Status → Type 0
IsPolicyCause P UnknownPolicy = P
IsPolicyCause P status = ⊥

-- ---- the text

-- What a record says is right, as the checker of online runs defines it: the schedule is valid and serves nobody before its
-- arrival, the completions and the cost are the schedule's, and the total is at most the cost of every schedule that serves
-- nobody before its arrival.
pub record IsRight (x : Input) (online : Online) : Type 0 where
  pub sound : IsSoundOnline (instance_of x.table x.weights) (slice_index x.arrivals) x.table.ids online
  pub bounds : BoundsReleasedSchedules (instance_of x.table x.weights) (slice_index x.arrivals) online

-- so it is, where there is a record
abbrev pub IsRightIfRun : Input → Recorded → Type 0
IsRightIfRun x (recorded.Run o) = IsRight x o
IsRightIfRun x (recorded.Unfit r) = Unit {0}

-- The instance that the files give, the ranker of the bench that is named, and the text of the record of its replay, which
-- is right.
pub record RecordOf (told : Option Told) (said : Said) (policy : Text) (bench : List Meaning) (text : List ℕ) : Type 0
  where
    pub table : TableFacts
    pub weights : List ℕ
    pub input : IsInput told (trace_name said.job) said.weights said.unit table weights
    pub ranker : Meaning
    pub named : IsPolicy bench policy ranker
    pub online : Online
    pub record_is : IsRecord (replay_input table weights said) ranker online
    pub form : IsOnline online
    pub right : IsRight (replay_input table weights said) online
    pub text_is : text ≡ online_text online

-- The same, where an answer of the ranker is no order: the text of the report of a bench that has this ranker alone.
pub record UnfitOf (told : Option Told) (said : Said) (policy : Text) (bench : List Meaning) (text : List ℕ) : Type 0
  where
    pub table : TableFacts
    pub weights : List ℕ
    pub input : IsInput told (trace_name said.job) said.weights said.unit table weights
    pub ranker : Meaning
    pub named : IsPolicy bench policy ranker
    pub report : ReplayReport
    pub reported : IsRecorded (replay_input table weights said) ranker (recorded.Unfit report)
    pub text_is : text ≡ replay_text report

-- the text of a record, or, where there is none, that of the report of the ranker alone
abbrev pub PolicyOf : Option Told → Said → Text → List Meaning → Bool → List ℕ → Type 0
PolicyOf told said policy bench true text = RecordOf told said policy bench text
PolicyOf told said policy bench false text = UnfitOf told said policy bench text

-- the text and the status of what a replay is recorded as
abbrev pub IsToldText : Recorded → Status → List ℕ → Type 0
IsToldText (recorded.Run o) status text = (status ≡ Ok) × (text ≡ online_text o)
IsToldText (recorded.Unfit r) status text = (status ≡ No) × (text ≡ replay_text r)

-- The text of the record was written.
pub record WritesRecord (told : Option Told) (said : Said) (policy : Text) (bench : List Meaning)
    (old new : Option (List ℕ)) : Type 0 where
  pub text : List ℕ
  pub run : RecordOf told said policy bench text
  pub written : Appends old new text

-- The report of the ranker alone was written.
pub record WritesUnfit (told : Option Told) (said : Said) (policy : Text) (bench : List Meaning)
    (old new : Option (List ℕ)) : Type 0 where
  pub text : List ℕ
  pub run : UnfitOf told said policy bench text
  pub written : Appends old new text

-- ---- too many publishings

-- The files give a table within its limits, and the replay of the ranker that is named would publish more orders than may
-- be published.
pub record RecordPublishesMore (bench : List Meaning) (policy : Text) (said : Said) (count : ℕ) (t : Told) : Type 0
  where
    pub given : FilesGiveTable said t
    pub fits : IsTable given.table
    pub ranker : Meaning
    pub named : IsPolicy bench policy ranker
    pub more : IsTooManyFor (replay_input given.table given.list said) ranker count
