use Rattle.std.proofs.Common.{subst}
use Rattle.cert_check.specs.Reasons.{IsVerdict}
use Rattle.flow_table.specs.Table.{instance_of}
use Rattle.plans.specs.PlanReport.{coflows_of}
use Rattle.plans.proofs.AsServed.{as_served}
use Rattle.plans.proofs.PlanSound.{plan_has_yes}
use Rattle.plans.proofs.ReadBack.{has_small_numbers, read_is_same, text_is_taken}
use Rattle.plans.proofs.ServedFacts.{served_is_report}
use Rattle.plans.proofs.laws.plan_is_read_back.Goals as goal

pub returns-clause-report : goal.returns-clause-report
returns-clause-report c = λ t weights r is p. served_is_report t weights (coflows_of p.order) r (as_served (instance_of t weights) t.ids r p) is

pub returns-clause-small : goal.returns-clause-small
returns-clause-small c = λ t weights r is ids p. has_small_numbers t weights (coflows_of p.order) r (as_served (instance_of t weights) t.ids r p) is ids

pub returns-clause-same : goal.returns-clause-same
returns-clause-same c = λ t weights r read is ids p given.
    read_is_same t weights (coflows_of p.order) r (as_served (instance_of t weights) t.ids r p) read is ids given

pub returns-clause-yes : goal.returns-clause-yes
returns-clause-yes c = λ t weights r read verdict is once ids p given verdict_is.
    let same = read_is_same t weights (coflows_of p.order) r (as_served (instance_of t weights) t.ids r p) read is ids given in
    plan_has_yes t weights r verdict is.table once is.count is.least p (subst (λ x. IsVerdict (instance_of t weights) t.ids x verdict) same verdict_is)

pub returns-clause-taken : goal.returns-clause-taken
returns-clause-taken c = λ t weights r line is ids p given.
    text_is_taken t weights (coflows_of p.order) r (as_served (instance_of t weights) t.ids r p) line is ids given
