use Rattle.release_bound.proofs.LateRow.{row_certificate, row_cost, row_feasible, row_no_more}
use Rattle.release_bound.proofs.laws.late_row_is_feasible.Goals as goal

pub returns-clause-certificate : goal.returns-clause-certificate
returns-clause-certificate c = row_certificate

pub returns-clause-feasible : goal.returns-clause-feasible
returns-clause-feasible c = row_feasible

pub returns-clause-no_more : goal.returns-clause-no_more
returns-clause-no_more c = row_no_more

pub returns-clause-cost : goal.returns-clause-cost
returns-clause-cost c = row_cost
