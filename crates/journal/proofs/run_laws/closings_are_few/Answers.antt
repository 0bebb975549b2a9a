use Rattle.journal.proofs.Counting.{closings_are, few_closings, granted_closings, noted_closings, units_within}
use Rattle.journal.proofs.run_laws.closings_are_few.Goals as goal

pub returns-clause-runs : goal.returns-clause-runs
returns-clause-runs c = closings_are

pub returns-clause-units : goal.returns-clause-units
returns-clause-units c = few_closings

pub returns-clause-within : goal.returns-clause-within
returns-clause-within c = units_within

pub returns-clause-granted : goal.returns-clause-granted
returns-clause-granted c = granted_closings

pub returns-clause-noted : goal.returns-clause-noted
returns-clause-noted c = noted_closings
