use Rattle.journal.proofs.Ending.{ends_among, few_endings, few_flows}
use Rattle.journal.proofs.Longest.{whole_without_end}
use Rattle.journal.proofs.run_laws.closings_end_flows.Goals as goal

pub returns-clause-few : goal.returns-clause-few
returns-clause-few c = few_endings

pub returns-clause-closed : goal.returns-clause-closed
returns-clause-closed c = ends_among

pub returns-clause-whole : goal.returns-clause-whole
returns-clause-whole c = whole_without_end

pub returns-clause-flows : goal.returns-clause-flows
returns-clause-flows c = few_flows
