use Rattle.plans.proofs.PlanTotals.{served_bounds}
use Rattle.plans.proofs.laws.served_report_bounds_every_schedule.Goals as goal

pub returns : goal.returns
returns c = served_bounds
