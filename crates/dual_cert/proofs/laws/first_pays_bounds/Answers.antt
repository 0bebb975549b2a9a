use Rattle.dual_cert.proofs.FirstPays.{first_pays_bound, first_pays_certificate, first_pays_cost, first_pays_feasible}
use Rattle.dual_cert.proofs.laws.first_pays_bounds.Goals as goal

pub returns-clause-certificate : goal.returns-clause-certificate
returns-clause-certificate c = first_pays_certificate

pub returns-clause-feasible : goal.returns-clause-feasible
returns-clause-feasible c = first_pays_feasible

pub returns-clause-bound : goal.returns-clause-bound
returns-clause-bound c = first_pays_bound

pub returns-clause-cost : goal.returns-clause-cost
returns-clause-cost c = first_pays_cost
