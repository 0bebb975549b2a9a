-- What `serve` reads and writes.
use Rattle.std.specs.Prelude.{◌≡◌, ℕ, List, Option}
use Rattle.command_words.specs.Jobs.{order_name, trace_name}
use Rattle.command_words.specs.Words.{Said}
use Rattle.flow_table.specs.Table.{TableFacts, instance_of}
use Rattle.outside.specs.Shelf.{Told}
use Rattle.plans.specs.ServedReport.{IsServedReport}
use Rattle.plans.specs.Totals.{BoundsEverySchedule}
use Rattle.report_text.specs.declared.value.Report.{Report}
use Rattle.report_text.specs.Text.{report_text}
use Rattle.command_files.specs.Inputs.{IsInput}
use Rattle.command_files.specs.Orders.{IsOrderIfNamed}
use Rattle.command_files.specs.Written.{Appends}

-- The instance that the files give, the order of its coflows, the report of the schedule that serves them in this order,
-- and the text of the report.
pub record ServedOf (told : Option Told) (said : Said) (text : List ℕ) : Type 0 where
  pub table : TableFacts
  pub weights : List ℕ
  pub input : IsInput told (trace_name said.job) said.weights said.unit table weights
  pub line : List ℕ
  pub order : IsOrderIfNamed told (order_name said.job) table.ids line
  pub report : Report
  pub served : IsServedReport (instance_of table weights) table.ids line report
  pub text_is : text ≡ report_text report

-- The report of the order was written. Its bound is at most the cost of every valid schedule of the instance that the
-- files give.
pub record WritesServed (told : Option Told) (said : Said) (old new : Option (List ℕ)) : Type 0 where
  pub text : List ℕ
  pub serves : ServedOf told said text
  pub bounds : BoundsEverySchedule (instance_of serves.table serves.weights) serves.report
  pub written : Appends old new text
