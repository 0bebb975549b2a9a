-- A plan is right, as a checker of reports defines it.
use Rattle.std.proofs.Common.{◌≡◌, ℕ, ◌≤◌, List, length, sym, subst}
use Rattle.std.specs.Prelude.{All}
use Rattle.coflow_units.specs.declared.trace.Trace.{Trace}
use Rattle.coflow_units.specs.Flows.{IsDistinct}
use Rattle.coflow_units.specs.Trace.{IsTrace}
use Rattle.flow_table.specs.Table.{IsTable, IsTableOf, TableFacts, instance_of}
use Rattle.flow_table.proofs.Whole.{whole}
use Rattle.report_text.specs.declared.value.Report.{Report}
use Rattle.cert_check.specs.declared.verdict.Verdict.{Verdict}
use Rattle.cert_check.specs.declared.verdict.Verdict.TheVariants.{Yes}
use Rattle.cert_check.specs.Reasons.{IsVerdict}
use Rattle.cert_check.specs.Sound.{IsSound}
use Rattle.cert_check.proofs.Verdicts.{yes_where_sound}
use Rattle.plans.specs.PlanReport.{IsPlanOf, coflows_of}
use Rattle.plans.proofs.AsServed.{as_served}
use Rattle.plans.proofs.PlanTotals.{plan_within}
use Rattle.plans.proofs.ServedSound.{served_is_sound}

-- the coflows of the table of a trace have different ids
pub ids_differ : (trace : Trace) (unit : ℕ) (t : TableFacts) → IsTrace trace → IsTableOf trace unit t → IsDistinct t.ids
ids_differ trace unit t is of_trace = subst IsDistinct (sym of_trace.ids) is.ids

pub plan_is_sound : (t : TableFacts) (weights : List ℕ) (r : Report) → IsTable t → IsDistinct t.ids → length weights ≡ length t.ids → All (λ w. 1 ≤ w) weights →
    IsPlanOf (instance_of t weights) t.ids r → IsSound (instance_of t weights) t.ids r
plan_is_sound t weights r table once count least p =
    let i = instance_of t weights in
    served_is_sound t weights (coflows_of p.order) r once (as_served i t.ids r p) (plan_within i t.ids r (whole t weights table count least).instance p)

-- so the verdict on it is yes
pub plan_has_yes : (t : TableFacts) (weights : List ℕ) (r : Report) (verdict : Verdict) → IsTable t → IsDistinct t.ids → length weights ≡ length t.ids → All (λ w. 1 ≤ w) weights →
    IsPlanOf (instance_of t weights) t.ids r →
    IsVerdict (instance_of t weights) t.ids r verdict → verdict ≡ Yes
plan_has_yes t weights r verdict table once count least p is = (yes_where_sound t weights r verdict is).1 (plan_is_sound t weights r table once count least p)
