use Rattle.std.proofs.Common.{◌∙◌, ap, sym}
use Rattle.flow_table.specs.Table.{instance_of}
use Rattle.plans.specs.PlanReport.{coflows_of}
use Rattle.plans.proofs.AsServed.{as_plan}
use Rattle.plans.proofs.planning.report_of.Goals as goal

pub returns-clause-plan : goal.returns-clause-plan
returns-clause-plan c =
    let line = coflows_of c.args.places.now in
    let told = c.in_ok-report.ensures.served line c.requires.served in
    let plan = as_plan (instance_of c.args.table.now c.args.weights.now) c.args.table.now.ids line _ told.0 (ap coflows_of (sym told.1)) in
    (plan.0, plan.1 ∙ told.2)
