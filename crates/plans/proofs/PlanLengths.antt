-- The text of the report of a plan is short.
use Rattle.std.proofs.Common.{◌≡◌, ℕ, ◌^◌, ◌≤◌, List, length, ap, arith}
use Rattle.std.specs.Prelude.{sum_by}
use Rattle.coflow_units.specs.declared.fabric.Flow.{Flow}
use Rattle.flow_table.specs.Table.{IsTable, TableFacts, instance_of}
use Rattle.report_text.specs.declared.value.Report.{Report}
use Rattle.report_text.specs.Report.{HasSmallNumbers, IsReport}
use Rattle.report_text.specs.Text.{report_text}
use Rattle.plans.specs.PlanReport.{IsPlanOf, coflows_of}
use Rattle.plans.proofs.AsServed.{as_served}
use Rattle.plans.proofs.ReadBack.{served_text_short}

-- where there are few units, the text is short enough to be read back
pub few_units_short : (t : TableFacts) (weights text : List ℕ) (r : Report) → IsTable t → sum_by (λ (x : Flow). x.units) t.flows ≤ 102400 → IsReport r → HasSmallNumbers r →
    IsPlanOf (instance_of t weights) t.ids r → text ≡ report_text r → length text ≤ 2 ^ 30
few_units_short t weights text r table few fits small p is =
    omega (arith, ap length is, served_text_short t weights (coflows_of p.order) r (as_served (instance_of t weights) t.ids r p) fits small, table.few_coflows)
