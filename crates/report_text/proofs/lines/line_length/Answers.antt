use Rattle.report_text.proofs.FirstFeed.{first_feed, no_feed}
use Rattle.report_text.proofs.lines.line_length.Goals as goal

pub returns-in-Some-clause-line : goal.returns-in-Some-clause-line
returns-in-Some-clause-line c = first_feed c.args.bytes.now c.in-Some.place c.in-Some.ensures

pub returns-in-None-clause-line : goal.returns-in-None-clause-line
returns-in-None-clause-line c = no_feed c.args.bytes.now c.in-None.ensures
