use Rattle.online_check.proofs.OneReport.{any_line_one, any_text_one, text_or_bad}
use Rattle.online_check.proofs.laws.any_report_is_one.Goals as goal

pub returns-clause-report : goal.returns-clause-report
returns-clause-report c = any_text_one

pub returns-clause-line : goal.returns-clause-line
returns-clause-line c = any_line_one

pub returns-clause-either : goal.returns-clause-either
returns-clause-either c = text_or_bad
