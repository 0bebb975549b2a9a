use Rattle.std.proofs.Common.{◌≤◌, length, subst, sym}
use Rattle.std.specs.Prelude.{sum_by}
use Rattle.coflow_units.specs.declared.fabric.Flow.{Flow}
use Rattle.coflow_stats.proofs.FinishedSteps.{few_flows, few_units}
use Rattle.coflow_stats.proofs.finished.sizes_in.Goals as goal

pub sizes_of-requires-clause-few : goal.sizes_of-requires-clause-few
sizes_of-requires-clause-few c = subst (λ l. length l ≤ 1048576) (sym c.of_coflow.ensures) (few_flows c.args.table.now c.args.coflow 1048576 c.requires.table.few_flows)

pub sizes_of-requires-clause-few_units : goal.sizes_of-requires-clause-few_units
sizes_of-requires-clause-few_units c =
    subst (λ l. sum_by (λ (x : Flow). x.units) l ≤ 1099511627776) (sym c.of_coflow.ensures) (few_units c.args.table.now c.args.coflow 1099511627776 c.requires.table.few_units)
