use Rattle.workload.proofs.MadeTexts.{made_flows_few, made_units_few}
use Rattle.workload.proofs.laws.made_flows_fit.Goals as goal

pub returns-clause-units : goal.returns-clause-units
returns-clause-units c = made_units_few

pub returns-clause-fits : goal.returns-clause-fits
returns-clause-fits c = made_flows_few
