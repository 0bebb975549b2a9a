use Rattle.hall_plan.proofs.PlanRuns.{few_entries, few_runs, few_slots}
use Rattle.hall_plan.proofs.laws.plans_are_short.Goals as goal

pub returns-clause-runs : goal.returns-clause-runs
returns-clause-runs c = few_runs

pub returns-clause-entries : goal.returns-clause-entries
returns-clause-entries c = few_entries

pub returns-clause-slots : goal.returns-clause-slots
returns-clause-slots c = few_slots
