-- What `check` reads and writes.
use Rattle.std.specs.Prelude.{ℕ, Bool, false, true, List, Option}
use Rattle.command_words.specs.Jobs.{report_name, trace_name}
use Rattle.command_words.specs.Words.{Said}
use Rattle.coflow_units.specs.Flows.{Instance}
use Rattle.flow_table.specs.Table.{TableFacts, instance_of}
use Rattle.online_check.specs.Sound.{BoundsReleasedSchedules}
use Rattle.outside.specs.Shelf.{Told}
use Rattle.plans.specs.Totals.{BoundsEverySchedule}
use Rattle.online_check.specs.declared.any_report.AnyReport.{AnyReport}
use Rattle.online_check.specs.declared.any_report.AnyReport.TheVariants.{Online, Plan}
use Rattle.online_check.specs.Judged.{IsJudged, IsRight}
use Rattle.command_files.specs.declared.status.Status.{Status}
use Rattle.command_files.specs.declared.status.Status.TheVariants as status
use Rattle.command_files.specs.Arrivals.{arrival_of}
use Rattle.command_files.specs.Inputs.{IsInput}
use Rattle.command_files.specs.Written.{Appends}
use Rattle.command_files.specs.Reports.{IsReportIfNamed}

-- The instance that the files give, the report, whether the answer is yes, and its line.
pub record CheckOf (told : Option Told) (said : Said) (yes : Bool) (text : List ℕ) : Type 0 where
  pub table : TableFacts
  pub weights : List ℕ
  pub input : IsInput told (trace_name said.job) said.weights said.unit table weights
  pub report : AnyReport
  pub report_is : IsReportIfNamed told (report_name said.job) report
  pub judged : IsJudged (instance_of table weights) (arrival_of table said) table.ids report yes text

-- the status of an answer whose line was written
abbrev pub status_for : Bool → Status
status_for true = status.Ok
status_for false = status.No

-- The line of a no on the report was written, with the first reason.
pub record WritesNo (told : Option Told) (said : Said) (old new : Option (List ℕ)) : Type 0 where
  pub text : List ℕ
  pub checks : CheckOf told said false text
  pub written : Appends old new text

-- What the total of a right report says: the bound of a plan is at most the cost of every valid schedule, and the total
-- of an online run is at most the cost of each that serves nobody before its arrival.
abbrev pub BoundsSchedules : Instance → (ℕ → ℕ) → AnyReport → Type 0
BoundsSchedules i arrival (Plan r) = BoundsEverySchedule i r
BoundsSchedules i arrival (Online o) = BoundsReleasedSchedules i arrival o

-- The line of a yes on the report was written. The report is right: the cost of a plan is at most four times its bound,
-- and its slack; the schedule of an online run serves nobody before its arrival, and has the cost that it states. And
-- its total bounds the schedules of the instance that the files give.
pub record WritesYes (told : Option Told) (said : Said) (old new : Option (List ℕ)) : Type 0 where
  pub text : List ℕ
  pub checks : CheckOf told said true text
  pub right : IsRight (instance_of checks.table checks.weights) (arrival_of checks.table said) checks.table.ids
      checks.report
  pub bounds : BoundsSchedules (instance_of checks.table checks.weights) (arrival_of checks.table said) checks.report
  pub written : Appends old new text
