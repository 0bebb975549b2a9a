use Rattle.report_text.proofs.TextSteps.{totals_written}
use Rattle.report_text.proofs.writing.push_totals.Goals as goal

pub returns : goal.returns
returns c =
    totals_written c.push_named-3.result c.args.report.now c.args.text.now.items c.push_named.new.text.items c.push_named-2.new.text.items c.push_named-3.new.text.items
    c.in_ok-push_named.ensures c.in_ok-push_named-2.ensures c.push_named-3.ensures
