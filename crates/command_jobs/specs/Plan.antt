-- What `plan` reads and writes.
use Rattle.std.specs.Prelude.{◌≡◌, ℕ, List, Option}
use Rattle.command_words.specs.Jobs.{trace_name}
use Rattle.command_words.specs.Words.{Said}
use Rattle.flow_table.specs.Table.{TableFacts, instance_of}
use Rattle.outside.specs.Shelf.{Told}
use Rattle.plans.specs.PlanReport.{IsPlanOf}
use Rattle.plans.specs.Totals.{BoundsEverySchedule, IsWithinFour}
use Rattle.report_text.specs.declared.value.Report.{Report}
use Rattle.report_text.specs.Text.{report_text}
use Rattle.command_files.specs.Inputs.{IsInput}
use Rattle.command_files.specs.Written.{Appends}

-- The instance that the files give, the report of its plan, and the text of the report. Of the table and the report's
-- schedule this holds: it is what was sent.
pub record PlanOf (Sent : TableFacts → List (List ℕ) → Type 0) (told : Option Told) (said : Said) (text : List ℕ) :
    Type 0 where
  pub table : TableFacts
  pub weights : List ℕ
  pub input : IsInput told (trace_name said.job) said.weights said.unit table weights
  pub report : Report
  pub planned : IsPlanOf (instance_of table weights) table.ids report
  pub sent : Sent table planned.slots
  pub text_is : text ≡ report_text report

-- The text of the plan was written, and its schedule was sent. The plan's bound is at most the cost of every valid
-- schedule of the instance that the files give, and its cost is at most four times that bound, and its slack.
pub record WritesPlan (Sent : TableFacts → List (List ℕ) → Type 0) (told : Option Told) (said : Said)
    (old new : Option (List ℕ)) : Type 0 where
  pub text : List ℕ
  pub plan : PlanOf Sent told said text
  pub bounds : BoundsEverySchedule (instance_of plan.table plan.weights) plan.report
  pub within : IsWithinFour plan.report
  pub written : Appends old new text
