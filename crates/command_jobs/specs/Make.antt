-- What `make` writes, and why it wrote nothing.
use Rattle.std.specs.Prelude.{◌≡◌, ℕ, List, Option, Some, length, sum_by}
use Rattle.coflow_units.specs.declared.fabric.Flow.{Flow}
use Rattle.cert_check.specs.Sound.{IsSound}
use Rattle.flow_table.specs.Table.{TableFacts, instance_of}
use Rattle.plans.specs.PlanReport.{IsPlanOf}
use Rattle.report_text.specs.declared.made.Made.{Made}
use Rattle.report_text.specs.declared.value.Report.{Report}
use Rattle.report_text.specs.Made.{made_text}
use Rattle.workload.specs.Coflows.{made_coflows}
use Rattle.workload.specs.Text.{trace_text, weights_text}
use Rattle.command_files.specs.declared.status.Status.{Status}
use Rattle.command_files.specs.declared.status.Status.TheVariants.{NoMemory}
use Rattle.command_files.specs.Inputs.{Gives}
use Rattle.command_files.specs.Written.{Appends}

-- the texts of the seed give the table of flows and the weights
abbrev pub GivesMade : ℕ → ℕ → TableFacts → List ℕ → Type 0
GivesMade seed unit table weights =
    Gives (trace_text (made_coflows seed)) (Some (weights_text (made_coflows seed))) unit table weights

-- the totals of the flows of a table and of a report of its plan
abbrev pub summary_of : ℕ → TableFacts → Report → Made
summary_of seed table r = record {
  seed = seed;
  flows = length table.flows;
  units = sum_by (λ (x : Flow). x.units) table.flows;
  bound = r.bound;
  slack = r.slack;
  cost = r.cost;
}

-- The instance that the texts of the seed give, the report of its plan, that it is right, and the text of the summary.
-- Of the table and the report's schedule this holds: it is what was sent.
pub record MadeOf (Sent : TableFacts → List (List ℕ) → Type 0) (seed unit : ℕ) (text : List ℕ) : Type 0 where
  pub table : TableFacts
  pub weights : List ℕ
  pub gives : GivesMade seed unit table weights
  pub report : Report
  pub planned : IsPlanOf (instance_of table weights) table.ids report
  pub sent : Sent table planned.slots
  pub sound : IsSound (instance_of table weights) table.ids report
  pub text_is : text ≡ made_text (summary_of seed table report)

-- the summary was written, and the schedule of the plan was sent
pub record WritesMade (Sent : TableFacts → List (List ℕ) → Type 0) (seed unit : ℕ) (old new : Option (List ℕ)) :
    Type 0 where
  pub text : List ℕ
  pub makes : MadeOf Sent seed unit text
  pub written : Appends old new text

-- the cause of a status that comes before anything is written, in `make`, which reads no file: there was no memory
abbrev pub HasMadeCause : Status → Type 0
HasMadeCause NoMemory = Unit {0}
HasMadeCause status = ⊥
