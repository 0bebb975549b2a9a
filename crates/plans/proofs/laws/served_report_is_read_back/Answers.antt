use Rattle.plans.proofs.ReadBack.{has_small_numbers, read_is_same, text_is_taken}
use Rattle.plans.proofs.ServedFacts.{served_is_report}
use Rattle.plans.proofs.laws.served_report_is_read_back.Goals as goal

pub returns-clause-report : goal.returns-clause-report
returns-clause-report c = λ t weights line r is served. served_is_report t weights line r served is

pub returns-clause-small : goal.returns-clause-small
returns-clause-small c = λ t weights line r is ids served. has_small_numbers t weights line r served is ids

pub returns-clause-same : goal.returns-clause-same
returns-clause-same c = λ t weights line r read is ids served given. read_is_same t weights line r served read is ids given

pub returns-clause-taken : goal.returns-clause-taken
returns-clause-taken c = λ t weights line r bad is ids served given. text_is_taken t weights line r served bad is ids given
