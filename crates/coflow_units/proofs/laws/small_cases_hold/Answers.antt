use Rattle.coflow_units.proofs.SmallCaseChecks.{two_flows_hold, two_flows_refuse}
use Rattle.coflow_units.proofs.laws.small_cases_hold.Goals as goal

pub returns-clause-holds : goal.returns-clause-holds
returns-clause-holds c = two_flows_hold

pub returns-clause-refuses : goal.returns-clause-refuses
returns-clause-refuses c = two_flows_refuse
