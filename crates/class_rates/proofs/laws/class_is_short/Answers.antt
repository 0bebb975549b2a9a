use Rattle.class_rates.proofs.ClassLaw.{coflow_law, cost_law, flow_law}
use Rattle.class_rates.proofs.laws.class_is_short.Goals as goal

pub returns-clause-flow : goal.returns-clause-flow
returns-clause-flow c = flow_law

pub returns-clause-coflow : goal.returns-clause-coflow
returns-clause-coflow c = coflow_law

pub returns-clause-cost : goal.returns-clause-cost
returns-clause-cost c = cost_law
