use Rattle.hall_plan.proofs.PlanParts.{next_is_part, runs_are_parts}
use Rattle.hall_plan.proofs.laws.plans_send_parts.Goals as goal

pub returns-clause-runs : goal.returns-clause-runs
returns-clause-runs c = runs_are_parts

pub returns-clause-next_run : goal.returns-clause-next_run
returns-clause-next_run c = next_is_part
