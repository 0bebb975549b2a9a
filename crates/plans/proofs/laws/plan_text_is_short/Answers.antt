use Rattle.flow_table.specs.Table.{instance_of}
use Rattle.plans.specs.PlanReport.{coflows_of}
use Rattle.plans.proofs.AsServed.{as_served}
use Rattle.plans.proofs.ReadBack.{has_small_numbers, served_text_short}
use Rattle.plans.proofs.ServedFacts.{served_is_report}
use Rattle.plans.proofs.laws.plan_text_is_short.Goals as goal

pub returns : goal.returns
returns c = λ t weights r is ids p.
    let line = coflows_of p.order in
    let served = as_served (instance_of t weights) t.ids r p in
    served_text_short t weights line r served (served_is_report t weights line r served is) (has_small_numbers t weights line r served is ids)
