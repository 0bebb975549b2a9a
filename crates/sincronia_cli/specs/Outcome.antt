-- What each command has to write, and with which status its job ends then.
use Rattle.std.specs.Prelude.{◌≡◌, ℕ, Bool, List, Option}
use Rattle.command_words.specs.Jobs.{Job}
use Rattle.command_words.specs.Jobs.Job.{audit_job, check_job, classes_job, compare_job, live_job, make_job, online_job, plan_job, record_job, replay_job, serve_job}
use Rattle.command_words.specs.Words.{Said}
use Rattle.flow_table.specs.Table.{TableFacts}
use Rattle.outside.specs.Shelf.{Told}
use Rattle.rankers.specs.Meaning.{Meaning}
use Rattle.command_files.specs.declared.status.Status.{Status}
use Rattle.command_files.specs.declared.status.Status.TheVariants.{No, Ok, WriteFault}
use Rattle.command_jobs.specs.Audit.{AuditOf, WritesUnsound}
use Rattle.command_jobs.specs.Check.{CheckOf, WritesNo, status_for}
use Rattle.command_jobs.specs.Classes.{ClassesOf}
use Rattle.command_jobs.specs.Compare.{ComparisonOf}
use Rattle.command_jobs.specs.Make.{MadeOf}
use Rattle.command_files.specs.Written.{AppendsBeginning}
use Rattle.command_jobs.specs.Live.{LiveOf}
use Rattle.command_jobs.specs.Online.{OnlineOf}
use Rattle.command_jobs.specs.Ordered.{ServedOf}
use Rattle.command_jobs.specs.Plan.{PlanOf}
use Rattle.command_jobs.specs.Record.{PolicyOf, WritesUnfit}
use Rattle.command_jobs.specs.Replay.{ReplayOf}

module _ (Sent : TableFacts → List (List ℕ) → Type 0) where
  -- The text of the command and the status that it ends with, where the bench has these rankers. Where a plan, an
  -- online run or a script is served, this holds of its table and schedule: it is what was sent.
  abbrev pub OutcomeBy : Job → Option Told → Said → List Meaning → Status → List ℕ → Type 0
  OutcomeBy (plan_job trace) told said bench status text = (status ≡ Ok) × PlanOf Sent told said text
  OutcomeBy (check_job trace report) told said bench status text =
      (yes : Bool) × (status ≡ status_for yes) × CheckOf told said yes text
  OutcomeBy (make_job seed) told said bench status text = (status ≡ Ok) × MadeOf Sent seed said.unit text
  OutcomeBy (compare_job trace) told said bench status text = (status ≡ Ok) × ComparisonOf told said bench text
  OutcomeBy (classes_job trace) told said bench status text = (status ≡ Ok) × ClassesOf told said text
  OutcomeBy (audit_job trace journal) told said bench status text =
      (yes : Bool) × (status ≡ status_for yes) × AuditOf told said yes text
  OutcomeBy (online_job trace) told said bench status text = (status ≡ Ok) × OnlineOf Sent told said text
  OutcomeBy (live_job trace script) told said bench status text = (status ≡ Ok) × LiveOf Sent told said text
  OutcomeBy (serve_job trace order) told said bench status text = (status ≡ Ok) × ServedOf told said text
  OutcomeBy (replay_job trace) told said bench status text = (status ≡ Ok) × ReplayOf told said bench text
  OutcomeBy (record_job trace policy) told said bench status text =
      (yes : Bool) × (status ≡ status_for yes) × PolicyOf told said policy bench yes text

  -- what is said has this text and this status
  abbrev pub IsOutcome : Option Told → Said → List Meaning → Status → List ℕ → Type 0
  IsOutcome told said bench status text = OutcomeBy said.job told said bench status text

  -- a beginning of the text of the command was written, which is shorter than the text
  pub record WritesBeginning (told : Option Told) (said : Said) (bench : List Meaning) (old new : Option (List ℕ)) :
      Type 0 where
    pub text : List ℕ
    pub status : Status
    pub outcome : IsOutcome told said bench status text
    pub written : AppendsBeginning old new text

-- The job answered no, where the bench has these rankers, and its text was written: the line on a report, that on a printed
-- journal, or the report of a ranker whose answer is no order.
abbrev pub WritesNoBy : List Meaning → Job → Option Told → Said → Option (List ℕ) → Option (List ℕ) → Type 0
WritesNoBy bench (check_job trace report) told said old new = WritesNo told said old new
WritesNoBy bench (audit_job trace journal) told said old new = WritesUnsound told said old new
WritesNoBy bench (record_job trace policy) told said old new = WritesUnfit told said policy bench old new
WritesNoBy bench job told said old new = ⊥

-- there was a text to be written
abbrev pub HasText : Status → Type 0
HasText Ok = Unit {0}
HasText No = Unit {0}
HasText (WriteFault count) = Unit {0}
HasText status = ⊥
