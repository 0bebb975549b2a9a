use Rattle.journal.proofs.NextSlots.{few_by_runs, few_by_units, passed}
use Rattle.journal.proofs.run_laws.next_slots_are_few.Goals as goal

pub returns-clause-passed : goal.returns-clause-passed
returns-clause-passed c = passed

pub returns-clause-runs : goal.returns-clause-runs
returns-clause-runs c = few_by_runs

pub returns-clause-units : goal.returns-clause-units
returns-clause-units c = few_by_units
